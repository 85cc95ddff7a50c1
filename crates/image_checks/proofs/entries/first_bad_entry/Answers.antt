use Rattle.std.proofs.Common.{◌*◌, arith, inl, inr}
use Rattle.std.proofs.lemmas.Bool.{cases_lt, and_parts, ltb-true}
use Rattle.spur_graph.specs.Ordinary.{page_entries, class_limit, has_page}
use Rattle.spur_graph.specs.FileStores.{file_store}
use Rattle.image_checks.proofs.entries.first_bad_entry.Goals as goal

pub returns-in-Err : goal.returns-in-Err
returns-in-Err c =
    let e = c.in-Err.ensures in
    record {
      is = e.2;
      none = λ m l bad. elim (cases_lt m (c.places.place * page_entries)) [ inl low ↦ c.places.invariant m low bad | inr high ↦ e.3 m high l bad ];
    }

pub returns : goal.returns
returns c n bad =
    let h = file_store c.args.image.now.map.now c.args.words.now in
    let paged = (and_parts (has_page h n) _ bad).0 in
    c.places.invariant n (omega (arith, ltb-true n class_limit (and_parts _ _ paged).0, c.places-test.false)) bad

pub places-preserved : goal.places-preserved
places-preserved c n l bad = elim (cases_lt n (c.places.place * page_entries)) [ inl low ↦ c.places.invariant n low bad | inr high ↦ c.in-Ok.ensures n high (omega (arith, l)) bad ]
