use Rattle.std.proofs.Common.{◌≡◌, map, take, slice_index}
use Rattle.book.specs.Listed.{link_of}
use Rattle.book.proofs.listed.write_links.Given as goal

-- the branches so far are linked
abbrev pub invariant-loop-place : goal.invariant-loop-place
invariant-loop-place l = take l.place l.links ≡ map (link_of (slice_index l.node)) (take l.place l.branches)
