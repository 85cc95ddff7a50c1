use Rattle.lazy_become.proofs.Moved.{Copied, Leads, a_c, b_d, there_a_t, plain_a, class_a, mourner_a, there_b_u, there_d_u, plain_b, class_b, mourner_b}
use Rattle.lazy_become.proofs.CrossedOver.{exchanges, writes, tables_kept}
use Rattle.lazy_become.proofs.exchanging.exchange_out_of_place.Goals as goal

pub forward_to-requires : goal.forward_to-requires
forward_to-requires c =
    let v = c.args.heap.now in
    let t = c.copy_both.new.heap in
    let k : Copied v t c.args.a c.args.b c.in_ok-first.first c.in_ok-first.second = record {
      whole = c.whole.ensures.whole;
      closed = c.whole.ensures.closed;
      there_a = c.requires.first;
      there_b = c.requires.second;
      can = c.requires.can;
      copies = c.in_ok-first.ensures.copied;
    } in
    record { there = there_a_t k; other = c.in_ok-first.ensures.copied.there_first; apart = a_c k; plain = plain_a k; class = class_a k; mourner = mourner_a k }

pub forward_to-requires-2 : goal.forward_to-requires-2
forward_to-requires-2 c =
    let v = c.args.heap.now in
    let t = c.copy_both.new.heap in
    let k : Copied v t c.args.a c.args.b c.in_ok-first.first c.in_ok-first.second = record {
      whole = c.whole.ensures.whole;
      closed = c.whole.ensures.closed;
      there_a = c.requires.first;
      there_b = c.requires.second;
      can = c.requires.can;
      copies = c.in_ok-first.ensures.copied;
    } in
    let one : Leads t c.forward_to.new.self c.args.a c.in_ok-first.first = record { written = c.forward_to.ensures.written; graph = c.forward_to.ensures.graph; room = c.forward_to.ensures.room; ordinary = c.forward_to.ensures.ordinary } in
    record { there = there_b_u k one; other = there_d_u k one; apart = b_d k; plain = plain_b k one; class = class_b k one; mourner = mourner_b k one }

pub returns-clause-exchanged : goal.returns-clause-exchanged
returns-clause-exchanged c =
    let v = c.args.heap.now in
    let t = c.copy_both.new.heap in
    let k : Copied v t c.args.a c.args.b c.in_ok-first.first c.in_ok-first.second = record {
      whole = c.whole.ensures.whole;
      closed = c.whole.ensures.closed;
      there_a = c.requires.first;
      there_b = c.requires.second;
      can = c.requires.can;
      copies = c.in_ok-first.ensures.copied;
    } in
    let one : Leads t c.forward_to.new.self c.args.a c.in_ok-first.first = record { written = c.forward_to.ensures.written; graph = c.forward_to.ensures.graph; room = c.forward_to.ensures.room; ordinary = c.forward_to.ensures.ordinary } in
    let two : Leads c.forward_to.new.self c.forward_to-2.new.self c.args.b c.in_ok-first.second = record { written = c.forward_to-2.ensures.written; graph = c.forward_to-2.ensures.graph; room = c.forward_to-2.ensures.room; ordinary = c.forward_to-2.ensures.ordinary } in
    exchanges k one two c.whole-2.ensures.whole

pub returns-clause-words : goal.returns-clause-words
returns-clause-words c =
    let v = c.args.heap.now in
    let t = c.copy_both.new.heap in
    let k : Copied v t c.args.a c.args.b c.in_ok-first.first c.in_ok-first.second = record {
      whole = c.whole.ensures.whole;
      closed = c.whole.ensures.closed;
      there_a = c.requires.first;
      there_b = c.requires.second;
      can = c.requires.can;
      copies = c.in_ok-first.ensures.copied;
    } in
    let one : Leads t c.forward_to.new.self c.args.a c.in_ok-first.first = record { written = c.forward_to.ensures.written; graph = c.forward_to.ensures.graph; room = c.forward_to.ensures.room; ordinary = c.forward_to.ensures.ordinary } in
    let two : Leads c.forward_to.new.self c.forward_to-2.new.self c.args.b c.in_ok-first.second = record { written = c.forward_to-2.ensures.written; graph = c.forward_to-2.ensures.graph; room = c.forward_to-2.ensures.room; ordinary = c.forward_to-2.ensures.ordinary } in
    writes k one two

pub returns-clause-tables : goal.returns-clause-tables
returns-clause-tables c =
    let v = c.args.heap.now in
    let t = c.copy_both.new.heap in
    let k : Copied v t c.args.a c.args.b c.in_ok-first.first c.in_ok-first.second = record {
      whole = c.whole.ensures.whole;
      closed = c.whole.ensures.closed;
      there_a = c.requires.first;
      there_b = c.requires.second;
      can = c.requires.can;
      copies = c.in_ok-first.ensures.copied;
    } in
    let one : Leads t c.forward_to.new.self c.args.a c.in_ok-first.first = record { written = c.forward_to.ensures.written; graph = c.forward_to.ensures.graph; room = c.forward_to.ensures.room; ordinary = c.forward_to.ensures.ordinary } in
    let two : Leads c.forward_to.new.self c.forward_to-2.new.self c.args.b c.in_ok-first.second = record { written = c.forward_to-2.ensures.written; graph = c.forward_to-2.ensures.graph; room = c.forward_to-2.ensures.room; ordinary = c.forward_to-2.ensures.ordinary } in
    tables_kept k one two
