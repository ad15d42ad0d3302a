-- The parts of pieces: a box that has several pieces in a context has them numbered (CSS 2.2, 9.2.1.1 and 9.4.2). Each piece
-- counts those of the same kind and node that stand before it.
use Rattle.std.specs.Prelude.{ℕ, ◌+◌, ◌==◌, ◌&&◌, Bool, true, false, List, [], ◌∷◌, ◌++◌, if◌then◌else◌}
use Rattle.lay_frag.specs.declared.frag.Frag.{Frag}
use Rattle.lay_frag.specs.declared.frag.FragKind.{FragKind}
use Rattle.lay_frag.specs.declared.frag.FragKind.TheVariants.{Box, Line, Text}

abbrev pub is_kind : FragKind → FragKind → Bool
is_kind Box Box = true
is_kind Line Line = true
is_kind Text Text = true
is_kind _ _ = false

-- how many of these are of this kind and of the node with this id
abbrev pub count_of : FragKind → ℕ → List Frag → ℕ
count_of kind id [] = 0
count_of kind id (f ∷ fs) = (if is_kind f.kind kind && f.node.0 == id then 1 else 0) + count_of kind id fs

-- a piece behind these
abbrev pub numbered : List Frag → Frag → Frag
numbered before f = record { kind = f.kind; node = f.node; part = count_of f.kind f.node.0 before; rect = f.rect }

-- pieces behind others, each with its part
abbrev pub with_pieces : List Frag → List Frag → List Frag
with_pieces before [] = before
with_pieces before (f ∷ fs) = with_pieces (before ++ numbered before f ∷ []) fs
