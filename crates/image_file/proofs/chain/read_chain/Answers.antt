use Rattle.std.proofs.Common.{◌+◌, arith, rules, refl, ap, ◌∙◌}
use Rattle.spur_graph.specs.ImageFile.{header_bytes}
use Rattle.image_file.proofs.Fronts.{tells_same}
use Rattle.image_file.proofs.Links.{leads_first, ready_first}
use Rattle.image_file.proofs.chain.read_chain.Goals as goal

pub segments-init : goal.segments-init
segments-init g c = record {
  told = refl;
  reads = refl;
  writes = refl;
  ready = ready_first (128 + c.args.header.now.heap_bytes) c.in_ok-map.map c.first_link-link.result c.args.header.now c.in_ok-map.ensures.empty c.in_ok-map.ensures.end c.in_ok-map.ensures.place
      c.first_link-link.ensures.place c.first_link-link.ensures.address c.requires.aligned (omega arith);
  leads = λ file tells head long. leads_first file c.in_ok-map.map c.first_link-link.result c.args.header.now c.in_ok-map.ensures.empty head
      c.first_link-link.ensures.place (c.first_link-link.ensures.size file head) c.first_link-link.ensures.address;
}

pub segments-preserved : goal.segments-preserved
segments-preserved g c = record {
  told = c.in_ok-next.ensures.same ∙ c.segments.invariant.told;
  reads = search rules;
  writes = c.in_ok-next.ensures.other ∙ c.segments.invariant.writes;
  ready = rw c.in-Some.is at c.in_ok-next.ensures.ready;
  leads = λ file tells head long. (rw c.in-Some.is at c.in_ok-next.ensures.next) file (tells_same (g.F.Files.told c.args.files.now) (g.F.Files.told c.segments.files) c.args.name.now file c.segments.invariant.told tells)
      (ap (λ n. header_bytes + n) head.heap_is) (omega (arith, head.heap_is, long)) (c.segments.invariant.leads file tells head long);
}

pub returns-clause-chain : goal.returns-clause-chain
returns-clause-chain g c file tells head long = (rw c.in_default.is at c.in_ok-next.ensures.last) file (tells_same (g.F.Files.told c.args.files.now) (g.F.Files.told c.segments.files) c.args.name.now file c.segments.invariant.told tells)
    (ap (λ n. header_bytes + n) head.heap_is) (omega (arith, head.heap_is, long)) (c.segments.invariant.leads file tells head long)
