use Rattle.std.proofs.Common.{◌≡◌, ◌≤◌, ℕ, ◌+◌, ◌*◌, List, length, take, drop, arith, rules, refl, subst, sym, ap, ◌∙◌, length-take, length-drop}
use Rattle.std.specs.List.{refill}
use Rattle.spur_words.specs.Lending.{with_run}
use Rattle.image_file.specs.Held.{HasWords}
use Rattle.image_file.proofs.Fronts.{tells_same}
use Rattle.image_file.proofs.PieceWords.{has_none, has_more}
use Rattle.image_file.proofs.Runs.{length_run, before_run, behind_run, run_length, with_more}
use Rattle.image_file.proofs.words.read_run.Goals as goal

pub pieces-init : goal.pieces-init
pieces-init g c = record {
  told = refl;
  reads = refl;
  writes = refl;
  most = omega arith;
  len = refl;
  front = refl;
  behind = refl;
  read = λ file tells. has_none file c.args.at;
}

pub pieces-preserved : goal.pieces-preserved
pieces-preserved g c =
    let done : ℕ = c.pieces.done in
    let begin : ℕ = c.args.begin in
    let old : List ℕ = c.pieces.region in
    let run : List ℕ = c.read_piece.new.words in
    let count : ℕ = c.min-some.result in
    let most : done + count ≤ c.args.count = omega arith in
    let within : begin + done + count ≤ length old = omega (arith, c.pieces.invariant.len, c.requires.within, most) in
    let sized : length run ≡ count = run_length old run c.window_mut.result.now (begin + done) count c.read_piece.auto.words c.window_mut.ensures.value within in
    let fits : begin + done + length run ≤ length old = omega (arith, sized, within) in
    record {
      told = c.in_ok-read_piece.ensures.same ∙ c.pieces.invariant.told;
      reads = search rules;
      writes = c.in_ok-read_piece.ensures.other ∙ c.pieces.invariant.writes;
      most = most;
      len = length_run old run (begin + done) fits ∙ c.pieces.invariant.len;
      front = before_run old run (begin + done) begin fits (omega arith) ∙ c.pieces.invariant.front;
      behind = behind_run old run (begin + done) (begin + c.args.count) fits (omega (arith, sized, most)) ∙ c.pieces.invariant.behind;
      read = λ file tells.
          let seen : List ℕ = take done (drop begin old) in
          let long : length seen ≡ done = omega (arith, within, length-take done (drop begin old), length-drop begin old) in
          let here = c.in_ok-read_piece.ensures.read file (tells_same (g.F.Files.told c.args.files.now) (g.F.Files.told c.pieces.files) c.args.name.now file c.pieces.invariant.told tells) in
          let place : c.args.at + 8 * done ≡ c.args.at + 8 * length seen = omega (arith, long) in
          let At : ℕ → Type 0 = λ n. HasWords file n run in
          let all = has_more file seen run c.args.at (c.pieces.invariant.read file tells) (subst At place here) in
          let Has : List ℕ → Type 0 = λ ws. HasWords file c.args.at ws in
          subst Has (sym (with_more old run begin done fits) ∙ ap (λ n. take (done + n) (drop begin (refill (length old) old (with_run old (begin + done) run)))) sized) all;
    }

pub returns-in_err-read_piece-clause-behind : goal.returns-in_err-read_piece-clause-behind
returns-in_err-read_piece-clause-behind g c =
    let done : ℕ = c.pieces.done in
    let begin : ℕ = c.args.begin in
    let old : List ℕ = c.pieces.region in
    let run : List ℕ = c.read_piece.new.words in
    let count : ℕ = c.min-some.result in
    let most : done + count ≤ c.args.count = omega arith in
    let within : begin + done + count ≤ length old = omega (arith, c.pieces.invariant.len, c.requires.within, most) in
    let sized : length run ≡ count = run_length old run c.window_mut.result.now (begin + done) count c.read_piece.auto.words c.window_mut.ensures.value within in
    behind_run old run (begin + done) (begin + c.args.count) (omega (arith, sized, within)) (omega (arith, sized, most)) ∙ c.pieces.invariant.behind
