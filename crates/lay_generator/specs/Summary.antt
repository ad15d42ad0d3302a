-- The summary of a generated run: how many nodes its last document has, how many edits were accepted, how many pieces the
-- last tree has, and a mark of their places and sizes.
use Rattle.std.specs.Prelude.{ℕ, ◌+◌, ◌*◌, ◌%◌, ◌^◌, ℤ, pos, List, ◌++◌, codes, fold, length, unsigned_abs}
use Rattle.std.specs.Int.{int_rem_euclid}
use Rattle.lay_frag.specs.declared.frag.Frag.{Frag}
use Rattle.lay_frag.specs.Pieces.{Context, frags_of}
use Rattle.lay_report.specs.Report.{numbered_line}

-- a number modulo 2^32, which isn't negative
abbrev pub residue : ℤ → ℕ
residue number = unsigned_abs (int_rem_euclid number (pos (2 ^ 32)))

-- a mark with one number more, modulo 2^32
abbrev pub mark_with : ℕ → ℤ → ℕ
mark_with mark number = (31 * mark + residue number) % 2 ^ 32

-- with the place and the size of a piece
abbrev pub piece_mark : ℕ → Frag → ℕ
piece_mark mark frag = mark_with (mark_with (mark_with (mark_with mark frag.rect.x.0) frag.rect.y.0) frag.rect.w.0) frag.rect.h.0

-- the mark of pieces in their order, behind one of others
abbrev pub mark_from : ℕ → List Frag → ℕ
mark_from mark frags = fold piece_mark mark frags

abbrev pub summary : ℕ → ℕ → List Context → List ℕ
summary nodes accepted tree =
    ((numbered_line (codes "nodes ") nodes ++ numbered_line (codes "accepted ") accepted)
    ++ numbered_line (codes "pieces ") (length (frags_of tree))) ++ numbered_line (codes "mark ") (mark_from 0 (frags_of tree))
