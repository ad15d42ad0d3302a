use Rattle.lay_run.specs.Gathered.ListedDocuments.{listed_document}
use Rattle.lay_run.specs.Gathered.Standing.{HasPut}
use Rattle.lay_run.proofs.gathered.walk.in_order.Given as goal

abbrev pub invariant-loop-place : goal.invariant-loop-place
invariant-loop-place l = HasPut (listed_document l.width l.height l.fn.listing.items.items) l.fn.listing.items.items l.nexts.items l.doc l.items.items l.at l._place
