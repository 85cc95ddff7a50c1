use Rattle.std.proofs.Common.{◌∙◌, List, ℕ, sym, ap, refl, rules, arith, inl, Ok}
use Rattle.spur_graph.specs.declared.answer.Value.TheVariants.{Ref}
use Rattle.spur_graph.specs.declared.answer.Value.TheVariants as values
use Rattle.spur_graph.specs.declared.answer.Answer.TheVariants as answers
use Rattle.spur_graph.specs.Form.{Special, Nil, Yes, No, Int, Char, Float, Copy, Drop, Kind, Class, Size, Fetch, Store, Unit, SetUnit, Same, Enter, Hash, Stat, Forward, Unpin, ReadOnly, Writable, Mourn}
use Rattle.std.specs.Result.{result_err}
use Rattle.replay.specs.Sessions.{graph_of, value_in}
use Rattle.spur_heap.proofs.Leads.{root_value}
use Rattle.replay.proofs.Graphs.{nil_named, no_named, yes_named, special_named}
use Rattle.replay.proofs.Steps.{exactly}
use Rattle.spur_graph.specs.Graph.{unbind}
use Rattle.replay.proofs.Doing.{binds, binds_value, int_valued, state_moved, int_row}
use Rattle.replay.proofs.commands.carry_out.Goals as goal

pub returns-in-Special-clause-done : goal.returns-in-Special-clause-done
returns-in-Special-clause-done c =
    let v = c.args.heap.now in
    rw (c.in-Special.is)
    (exactly v c.bind_word.new.heap c.args.mutator (Special c.in-Special.h.bytes) c.bind_word.result
    (binds v c.bind_word.new.heap c.args.mutator c.in-Special.h.bytes (value_in v c.special.result) (graph_of v).special (Special c.in-Special.h.bytes) c.bind_word.result (λ s. refl)
    (ap (value_in v) c.special.ensures.word ∙ sym (special_named v)) c.bind_word.ensures.bound))

pub returns-in-Nil-clause-done : goal.returns-in-Nil-clause-done
returns-in-Nil-clause-done c =
    let v = c.args.heap.now in
    rw (c.in-Nil.is)
    (exactly v c.bind_word-in-Nil.new.heap c.args.mutator (Nil c.in-Nil.h.bytes) c.bind_word-in-Nil.result
    (binds v c.bind_word-in-Nil.new.heap c.args.mutator c.in-Nil.h.bytes (value_in v c.nil.result) (Ref (graph_of v).nil) (Nil c.in-Nil.h.bytes) c.bind_word-in-Nil.result (λ s. refl)
    (root_value v c.whole.ensures.whole 0 c.nil.result (omega arith) c.nil.ensures.word ∙ ap (λ a. Ref a) (sym (nil_named v))) c.bind_word-in-Nil.ensures.bound))

pub returns-in-Yes-clause-done : goal.returns-in-Yes-clause-done
returns-in-Yes-clause-done c =
    let v = c.args.heap.now in
    rw (c.in-Yes.is)
    (exactly v c.bind_word-in-Yes.new.heap c.args.mutator (Yes c.in-Yes.h.bytes) c.bind_word-in-Yes.result
    (binds v c.bind_word-in-Yes.new.heap c.args.mutator c.in-Yes.h.bytes (value_in v c.yes.result) (Ref (graph_of v).yes) (Yes c.in-Yes.h.bytes) c.bind_word-in-Yes.result (λ s. refl)
    (root_value v c.whole.ensures.whole 2 c.yes.result (omega arith) c.yes.ensures.word ∙ ap (λ a. Ref a) (sym (yes_named v))) c.bind_word-in-Yes.ensures.bound))

pub returns-in-No-clause-done : goal.returns-in-No-clause-done
returns-in-No-clause-done c =
    let v = c.args.heap.now in
    rw (c.in-No.is)
    (exactly v c.bind_word-in-No.new.heap c.args.mutator (No c.in-No.h.bytes) c.bind_word-in-No.result
    (binds v c.bind_word-in-No.new.heap c.args.mutator c.in-No.h.bytes (value_in v c.no.result) (Ref (graph_of v).no) (No c.in-No.h.bytes) c.bind_word-in-No.result (λ s. refl)
    (root_value v c.whole.ensures.whole 1 c.no.result (omega arith) c.no.ensures.word ∙ ap (λ a. Ref a) (sym (no_named v))) c.bind_word-in-No.ensures.bound))

pub returns-in-Int-clause-refusal : goal.returns-in-Int-clause-refusal
returns-in-Int-clause-refusal c = λ s.
    rw (c.in-Int.is) (int_row (graph_of c.args.heap.now) c.args.mutator c.in-Int.h.bytes c.in-Int.n _ c.small_int.result (result_err c.bind_value.result) (search rules) c.small_int.ensures.range c.bind_value.ensures.refusal)

pub returns-in-Int-clause-done : goal.returns-in-Int-clause-done
returns-in-Int-clause-done c =
    let v = c.args.heap.now in
    rw (c.in-Int.is)
    (exactly v c.bind_value.new.heap c.args.mutator (Int c.in-Int.h.bytes c.in-Int.n) c.bind_value.result
    (binds_value v c.bind_value.new.heap c.args.mutator c.in-Int.h.bytes (values.Int c.in-Int.n) (Int c.in-Int.h.bytes c.in-Int.n) c.small_int.result c.bind_value.result (λ s. refl) (int_valued _ c.in-Int.n c.small_int.result (search rules) c.small_int.ensures.value) c.bind_value.ensures.refusal c.bind_value.ensures.bound))

pub returns-in-Char-clause-done : goal.returns-in-Char-clause-done
returns-in-Char-clause-done c =
    let v = c.args.heap.now in
    rw (c.in-Char.is)
    (exactly v c.bind_value-in-Char.new.heap c.args.mutator (Char c.in-Char.h.bytes c.in-Char.n) c.bind_value-in-Char.result
    (binds_value v c.bind_value-in-Char.new.heap c.args.mutator c.in-Char.h.bytes (values.Char c.in-Char.n) (Char c.in-Char.h.bytes c.in-Char.n) c.character.result c.bind_value-in-Char.result (λ s. refl) c.character.ensures.value c.bind_value-in-Char.ensures.refusal c.bind_value-in-Char.ensures.bound))

pub returns-in-Float-clause-done : goal.returns-in-Float-clause-done
returns-in-Float-clause-done c =
    let v = c.args.heap.now in
    rw (c.in-Float.is)
    (exactly v c.bind_value-in-Float.new.heap c.args.mutator (Float c.in-Float.h.bytes c.in-Float.word) c.bind_value-in-Float.result
    (binds_value v c.bind_value-in-Float.new.heap c.args.mutator c.in-Float.h.bytes (values.Float c.in-Float.word) (Float c.in-Float.h.bytes c.in-Float.word) c.float_bits.result c.bind_value-in-Float.result (λ s. refl) c.float_bits.ensures.value c.bind_value-in-Float.ensures.refusal c.bind_value-in-Float.ensures.bound))

pub returns-in-Copy-clause-refusal : goal.returns-in-Copy-clause-refusal
returns-in-Copy-clause-refusal c = rw (c.in-Copy.is) c.copy.ensures.refusal

pub returns-in-Copy-clause-done : goal.returns-in-Copy-clause-done
returns-in-Copy-clause-done c = rw (c.in-Copy.is) (exactly c.args.heap.now c.copy.new.heap c.args.mutator (Copy c.in-Copy.h.bytes c.in-Copy.o.bytes) c.copy.result c.copy.ensures.done)

pub returns-in-Class-clause-refusal : goal.returns-in-Class-clause-refusal
returns-in-Class-clause-refusal c = rw (c.in-Class.is) c.bind_class.ensures.refusal

pub returns-in-Class-clause-done : goal.returns-in-Class-clause-done
returns-in-Class-clause-done c = rw (c.in-Class.is) (exactly c.args.heap.now c.bind_class.new.heap c.args.mutator (Class c.in-Class.h.bytes c.in-Class.o.bytes) c.bind_class.result c.bind_class.ensures.done)

pub returns-in-Kind-clause-refusal : goal.returns-in-Kind-clause-refusal
returns-in-Kind-clause-refusal c = rw (c.in-Kind.is) c.kind.ensures.refusal

pub returns-in-Kind-clause-done : goal.returns-in-Kind-clause-done
returns-in-Kind-clause-done c = rw (c.in-Kind.is) (exactly c.args.heap.now c.args.heap.now c.args.mutator (Kind c.in-Kind.o.bytes) c.kind.result c.kind.ensures.done)

pub returns-in-Size-clause-refusal : goal.returns-in-Size-clause-refusal
returns-in-Size-clause-refusal c = rw (c.in-Size.is) c.size.ensures.refusal

pub returns-in-Size-clause-done : goal.returns-in-Size-clause-done
returns-in-Size-clause-done c = rw (c.in-Size.is) (exactly c.args.heap.now c.args.heap.now c.args.mutator (Size c.in-Size.o.bytes) c.size.result c.size.ensures.done)

pub returns-in-Same-clause-refusal : goal.returns-in-Same-clause-refusal
returns-in-Same-clause-refusal c = rw (c.in-Same.is) c.same.ensures.refusal

pub returns-in-Same-clause-done : goal.returns-in-Same-clause-done
returns-in-Same-clause-done c = rw (c.in-Same.is) (exactly c.args.heap.now c.args.heap.now c.args.mutator (Same c.in-Same.a.bytes c.in-Same.b.bytes) c.same.result c.same.ensures.done)

pub returns-in-Fetch-clause-refusal : goal.returns-in-Fetch-clause-refusal
returns-in-Fetch-clause-refusal c = rw (c.in-Fetch.is) c.fetch.ensures.refusal

pub returns-in-Fetch-clause-done : goal.returns-in-Fetch-clause-done
returns-in-Fetch-clause-done c = rw (c.in-Fetch.is) (exactly c.args.heap.now c.fetch.new.heap c.args.mutator (Fetch c.in-Fetch.h.bytes c.in-Fetch.o.bytes c.in-Fetch.i) c.fetch.result c.fetch.ensures.done)

pub returns-in-Store-clause-refusal : goal.returns-in-Store-clause-refusal
returns-in-Store-clause-refusal c = rw (c.in-Store.is) c.store.ensures.refusal

pub returns-in-Store-clause-done : goal.returns-in-Store-clause-done
returns-in-Store-clause-done c = rw (c.in-Store.is) (exactly c.args.heap.now c.store.new.heap c.args.mutator (Store c.in-Store.o.bytes c.in-Store.i c.in-Store.v.bytes) c.store.result c.store.ensures.done)

pub returns-in-Unit-clause-refusal : goal.returns-in-Unit-clause-refusal
returns-in-Unit-clause-refusal c = rw (c.in-Unit.is) c.unit.ensures.refusal

pub returns-in-Unit-clause-done : goal.returns-in-Unit-clause-done
returns-in-Unit-clause-done c = rw (c.in-Unit.is) (exactly c.args.heap.now c.args.heap.now c.args.mutator (Unit c.in-Unit.o.bytes c.in-Unit.i) c.unit.result c.unit.ensures.done)

pub returns-in-SetUnit-clause-refusal : goal.returns-in-SetUnit-clause-refusal
returns-in-SetUnit-clause-refusal c = rw (c.in-SetUnit.is) c.set_unit.ensures.refusal

pub returns-in-SetUnit-clause-done : goal.returns-in-SetUnit-clause-done
returns-in-SetUnit-clause-done c = rw (c.in-SetUnit.is) (exactly c.args.heap.now c.set_unit.new.heap c.args.mutator (SetUnit c.in-SetUnit.o.bytes c.in-SetUnit.i c.in-SetUnit.n) c.set_unit.result c.set_unit.ensures.done)

pub returns-in_ok-unbind-in-Drop-clause-done : goal.returns-in_ok-unbind-in-Drop-clause-done
returns-in_ok-unbind-in-Drop-clause-done c =
    let v = c.args.heap.now in
    let new = c.unbind.new.heap in
    let h : List ℕ = c.in-Drop.h.bytes in
    rw (c.in-Drop.is) (exactly v new c.args.mutator (Drop h) (Ok answers.Done) (λ s. inl (refl, state_moved v new s (unbind (graph_of v) c.args.mutator h) c.in_ok-unbind-in-Drop.ensures.unbound)))

pub returns-in-New-clause-refusal : goal.returns-in-New-clause-refusal
returns-in-New-clause-refusal c = rw (c.in-New.is) c.make.ensures.refusal

pub returns-in-New-clause-done : goal.returns-in-New-clause-done
returns-in-New-clause-done c = rw (c.in-New.is) c.make.ensures.done

pub returns-in-NewOld-clause-refusal : goal.returns-in-NewOld-clause-refusal
returns-in-NewOld-clause-refusal c = rw (c.in-NewOld.is) c.make-in-NewOld.ensures.refusal

pub returns-in-NewOld-clause-done : goal.returns-in-NewOld-clause-done
returns-in-NewOld-clause-done c = rw (c.in-NewOld.is) c.make-in-NewOld.ensures.done

pub returns-in-Enter-clause-refusal : goal.returns-in-Enter-clause-refusal
returns-in-Enter-clause-refusal c = rw (c.in-Enter.is) c.enter_class.ensures.refusal

pub returns-in-Enter-clause-done : goal.returns-in-Enter-clause-done
returns-in-Enter-clause-done c = rw (c.in-Enter.is) (exactly c.args.heap.now c.enter_class.new.heap c.args.mutator (Enter c.in-Enter.c.bytes) c.enter_class.result c.enter_class.ensures.done)

pub returns-in-Hash-clause-refusal : goal.returns-in-Hash-clause-refusal
returns-in-Hash-clause-refusal c = rw (c.in-Hash.is) c.hash.ensures.refusal

pub returns-in-Hash-clause-done : goal.returns-in-Hash-clause-done
returns-in-Hash-clause-done c = rw (c.in-Hash.is) (exactly c.args.heap.now c.hash.new.heap c.args.mutator (Hash c.in-Hash.o.bytes) c.hash.result c.hash.ensures.done)

pub returns-in-Stat-clause-done : goal.returns-in-Stat-clause-done
returns-in-Stat-clause-done c =
    let v = c.args.heap.now in
    rw (c.in-Stat.is) (exactly v v c.args.mutator Stat (Ok c.stat.result) c.stat.ensures.done)

pub returns-in-Become-clause-refusal : goal.returns-in-Become-clause-refusal
returns-in-Become-clause-refusal c = rw (c.in-Become.is) c.exchange_objects.ensures.refusal

pub returns-in-Become-clause-done : goal.returns-in-Become-clause-done
returns-in-Become-clause-done c = rw (c.in-Become.is) c.exchange_objects.ensures.done

pub returns-in-Forward-clause-refusal : goal.returns-in-Forward-clause-refusal
returns-in-Forward-clause-refusal c = rw (c.in-Forward.is) c.forward_object.ensures.refusal

pub returns-in-Forward-clause-done : goal.returns-in-Forward-clause-done
returns-in-Forward-clause-done c =
    rw (c.in-Forward.is)
    (exactly c.args.heap.now c.forward_object.new.heap c.args.mutator (Forward c.in-Forward.a.bytes c.in-Forward.b.bytes c.in-Forward.hash) c.forward_object.result c.forward_object.ensures.done)

pub returns-in-Pin-clause-refusal : goal.returns-in-Pin-clause-refusal
returns-in-Pin-clause-refusal c = rw (c.in-Pin.is) c.pin_object.ensures.refusal

pub returns-in-Pin-clause-done : goal.returns-in-Pin-clause-done
returns-in-Pin-clause-done c = rw (c.in-Pin.is) c.pin_object.ensures.done

pub returns-in-Unpin-clause-refusal : goal.returns-in-Unpin-clause-refusal
returns-in-Unpin-clause-refusal c = rw (c.in-Unpin.is) c.unpin_object.ensures.refusal

pub returns-in-Unpin-clause-done : goal.returns-in-Unpin-clause-done
returns-in-Unpin-clause-done c = rw (c.in-Unpin.is) (exactly c.args.heap.now c.unpin_object.new.heap c.args.mutator (Unpin c.in-Unpin.o.bytes) c.unpin_object.result c.unpin_object.ensures.done)

pub returns-in-ReadOnly-clause-refusal : goal.returns-in-ReadOnly-clause-refusal
returns-in-ReadOnly-clause-refusal c = rw (c.in-ReadOnly.is) c.protect.ensures.refusal

pub returns-in-ReadOnly-clause-done : goal.returns-in-ReadOnly-clause-done
returns-in-ReadOnly-clause-done c = rw (c.in-ReadOnly.is) (exactly c.args.heap.now c.protect.new.heap c.args.mutator (ReadOnly c.in-ReadOnly.o.bytes) c.protect.result c.protect.ensures.done)

pub returns-in-Writable-clause-refusal : goal.returns-in-Writable-clause-refusal
returns-in-Writable-clause-refusal c = rw (c.in-Writable.is) c.protect-in-Writable.ensures.refusal

pub returns-in-Writable-clause-done : goal.returns-in-Writable-clause-done
returns-in-Writable-clause-done c =
    rw (c.in-Writable.is) (exactly c.args.heap.now c.protect-in-Writable.new.heap c.args.mutator (Writable c.in-Writable.o.bytes) c.protect-in-Writable.result c.protect-in-Writable.ensures.done)

pub returns-in-Gc-clause-done : goal.returns-in-Gc-clause-done
returns-in-Gc-clause-done c = rw (c.in-Gc.is) c.collect_dead.ensures.done

pub returns-in-Mourn-clause-refusal : goal.returns-in-Mourn-clause-refusal
returns-in-Mourn-clause-refusal c = rw (c.in-Mourn.is) c.mourn_one.ensures.refusal

pub returns-in-Mourn-clause-done : goal.returns-in-Mourn-clause-done
returns-in-Mourn-clause-done c = rw (c.in-Mourn.is) (exactly c.args.heap.now c.mourn_one.new.heap c.args.mutator (Mourn c.in-Mourn.h.bytes) c.mourn_one.result c.mourn_one.ensures.done)
