use Rattle.std.proofs.Common.{◌≡◌, drop}
use Rattle.dm_parts.specs.Parts.{with_links}
use Rattle.dm_parts.proofs.parts.join_links.Given as goal

abbrev pub invariant-loop-link : goal.invariant-loop-link
invariant-loop-link l = with_links l.boot l.place l.parts (drop l.link-index l.links) ≡ with_links l.boot l.place l.fn.parts l.links
