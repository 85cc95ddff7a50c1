use Rattle.std.proofs.Common.{◌-◌, ◌∙◌, ◌∷◌, sym, map, length, take, drop, arith}
use Rattle.std.specs.String.{string_bytes}
use Rattle.replay.proofs.Words.{pair_words, told_all, tell_behind, tells_nothing, none_is}
use Rattle.replay.proofs.options.told_by.Goals as goal

pub options-init : goal.options-init
options-init c = λ all. (λ t. t, λ t. t)

pub returns-in_err-told-clause-none : goal.returns-in_err-told-clause-none
returns-in_err-told-clause-none c =
    let rest = c.options.rest.now in
    let are = pair_words string_bytes rest c.option-item.result c.text-item.result c.in-len2-up.len_at_least c.option-item.is c.text-item.is
    ∙ (λ k. sym c.as_str.ensures.value k ∷ sym c.as_str-in-len2-up.ensures.value k ∷ map string_bytes (take (length rest - 2) (drop 2 rest))) in
    none_is _ _ (tells_nothing (map string_bytes c.args.options.now) (map string_bytes rest) (map string_bytes (take (length rest - 2) (drop 2 rest))) c.options.told c.as_str.result.now c.as_str-in-len2-up.result.now
    c.options.invariant are c.in_err-told.ensures.none)

pub options-smaller : goal.options-smaller
options-smaller c = omega (arith, c.in-len2-up.len_at_least)

pub options-preserved : goal.options-preserved
options-preserved c =
    let rest = c.options.rest.now in
    let are = pair_words string_bytes rest c.option-item.result c.text-item.result c.in-len2-up.len_at_least c.option-item.is c.text-item.is
    ∙ (λ k. sym c.as_str.ensures.value k ∷ sym c.as_str-in-len2-up.ensures.value k ∷ map string_bytes (take (length rest - 2) (drop 2 rest))) in
    tell_behind (map string_bytes c.args.options.now) (map string_bytes rest) (map string_bytes (take (length rest - 2) (drop 2 rest))) c.options.told c.in_ok-told.told c.as_str.result.now c.as_str-in-len2-up.result.now
    c.options.invariant are c.in_ok-told.ensures.some

pub returns-in-empty-clause-some : goal.returns-in-empty-clause-some
returns-in-empty-clause-some c = (c.options.invariant c.options.told).1 (told_all string_bytes c.options.rest.now c.options.told c.in-empty.len_below)
