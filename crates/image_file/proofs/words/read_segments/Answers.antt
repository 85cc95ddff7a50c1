use Rattle.std.proofs.Common.{◌≡◌, ◌≤◌, ◌<◌, ℕ, ◌+◌, length, take, arith, rules, ◌∙◌, sym, ap}
use Rattle.std.proofs.lemmas.List.{take_all}
use Rattle.std.specs.List.{flat_map}
use Rattle.spur_graph.specs.Segments.{total_words, segment_words}
use Rattle.image_file.proofs.Fronts.{tells_same}
use Rattle.image_file.proofs.AllWords.{run_within, words_more, behind_all}
use Rattle.image_file.proofs.words.read_segments.Goals as goal

pub segments-preserved : goal.segments-preserved
segments-preserved g c =
    let map = c.args.map.now in
    let i : ℕ = c.segments.i in
    let begin : ℕ = c.begin-begin.result in
    let count : ℕ = c.word_count-count.result in
    let below : i < length map = omega (arith, c.len-i-end.ensures.len, c.segments-test.true) in
    let within : begin + count ≤ total_words map = run_within map i begin count below c.begin-begin.ensures c.word_count-count.ensures.words in
    record {
      told = c.in_ok-read_run.ensures.same ∙ c.segments.invariant.told;
      reads = search rules;
      writes = c.in_ok-read_run.ensures.other ∙ c.segments.invariant.writes;
      len = c.in_ok-read_run.ensures.len ∙ c.segments.invariant.len;
      behind = behind_all c.segments.region c.read_run.new.region c.args.region.now (begin + count) (total_words map) within c.in_ok-read_run.ensures.behind c.segments.invariant.behind;
      words = λ file tells. words_more file c.segments.region c.read_run.new.region map i c.place-place.result begin count below c.place-place.ensures.place c.begin-begin.ensures c.word_count-count.ensures.words c.word_count-count.ensures.bytes
          (omega (arith, within, c.in_ok-read_run.ensures.len, c.segments.invariant.len, c.requires.room)) (c.segments.invariant.words file tells) c.in_ok-read_run.ensures.front
          (c.in_ok-read_run.ensures.read file (tells_same (g.F.Files.told c.args.files.now) (g.F.Files.told c.segments.files) c.args.name.now file c.segments.invariant.told tells));
    }

pub returns-in_err-read_run-clause-behind : goal.returns-in_err-read_run-clause-behind
returns-in_err-read_run-clause-behind g c =
    let map = c.args.map.now in
    let i : ℕ = c.segments.i in
    let begin : ℕ = c.begin-begin.result in
    let count : ℕ = c.word_count-count.result in
    let below : i < length map = omega (arith, c.len-i-end.ensures.len, c.segments-test.true) in
    let within : begin + count ≤ total_words map = run_within map i begin count below c.begin-begin.ensures c.word_count-count.ensures.words in
    behind_all c.segments.region c.read_run.new.region c.args.region.now (begin + count) (total_words map) within c.read_run.ensures.behind c.segments.invariant.behind

pub returns-clause-words : goal.returns-clause-words
returns-clause-words g c file tells =
    let map = c.args.map.now in
    let all : take c.segments.i map ≡ map = take_all c.segments.i map (omega (arith, c.len-i-end.ensures.len, c.segments-test.false)) in
    ap (λ segs. take (total_words segs) c.segments.region) (sym all) ∙ (c.segments.invariant.words file tells ∙ ap (λ segs. flat_map (segment_words file) segs) all)
