-- The document of listed nodes: the first is its root, and each later one is put into it as the last child of its parent.
use Rattle.std.specs.Prelude.{ℕ, List, [], ◌∷◌}
use Rattle.lay_doc.specs.Document.{Document, root_document}
use Rattle.lay_doc.specs.Edits.{after_insert, last_index}
use Rattle.lay_run.specs.declared.gathered.listing.Listed.{Listed}

-- the document with a node as the last child of its parent
abbrev pub with_last : Document → Listed → Document
with_last d x = after_insert d x.parent.0 (last_index d x.parent.0) x.new

abbrev pub with_each : Document → List Listed → Document
with_each d [] = d
with_each d (x ∷ xs) = with_each (with_last d x) xs

-- the document of a viewport's width and height and of these nodes; no nodes are no document
abbrev pub listed_document : ℕ → ℕ → List Listed → Document
listed_document width height [] = record { width = width; height = height; nodes = [] }
listed_document width height (x ∷ xs) = with_each (root_document width height x.new) xs
