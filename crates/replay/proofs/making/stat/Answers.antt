use Rattle.replay.proofs.Made.{stat_obeys}
use Rattle.replay.proofs.making.stat.Goals as goal

pub returns : goal.returns
returns c = record {
  done = stat_obeys c.args.heap.now c.args.mutator c.chunk_count.result c.handle_count.result c.mourner_count.result c.free_words.result c.largest_free.result c.eden_left.result c.past_used.result
      c.chunk_count.ensures c.handle_count.ensures.count c.mourner_count.ensures c.free_words.ensures c.largest_free.ensures c.eden_left.ensures c.past_used.ensures;
}
