use Rattle.std.proofs.Common.{◌≡◌, ◌-◌, ◌≤◌, ◌+◌, ℕ, List, length}
use Rattle.spur_graph.specs.ImageFile.{header_bytes, heap_bytes}
use Rattle.image_header.specs.Headers.{IsHeaderOf}
use Rattle.image_file.specs.Told.{Tells}
use Rattle.image_file.specs.Linked.{IsReady, Leads}
use Rattle.image_file.proofs.chain.read_chain.Given as goal

-- the chain of the file comes to the segment that is to be entered, and no call has failed
abbrev pub invariant-segments : goal.invariant-segments
invariant-segments g l = record {
  told : g.F.Files.told l.files ≡ g.F.Files.told l.fn.files;
  reads : g.F.Files.read_count l.files ≡ g.F.Files.read_count l.fn.files;
  writes : g.F.Files.write_count l.files ≡ g.F.Files.write_count l.fn.files;
  ready : IsReady l.end l.map l.link;
  leads : (file : List ℕ) → Tells (g.F.Files.told l.fn.files) l.fn.name file → IsHeaderOf file l.fn.header → header_bytes + heap_bytes file ≤ length file → Leads file l.map l.link;
}

abbrev pub decreases-segments : goal.decreases-segments
decreases-segments g l = 4097 - length l.map
