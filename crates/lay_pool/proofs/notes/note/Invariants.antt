-- What is left to note, and what is noted, is of the claims at its places.
use Rattle.std.proofs.Common.{◌≡◌, vec_len, length}
use Rattle.std.specs.List.{All}
use Rattle.std.specs.Vec.Iter.{into_iter_items, into_iter_len}
use Rattle.lay_pool.specs.Finds.{AreNotesOf, IsFoundOf}
use Rattle.lay_pool.proofs.notes.note.Given as goal

abbrev pub invariant-loop-one : goal.invariant-loop-one
invariant-loop-one l =
    All (IsFoundOf l.claims) (into_iter_items l.one-iterator)
    × (into_iter_len l.one-iterator ≡ length (into_iter_items l.one-iterator))
    × AreNotesOf l.claims l.notes.items × (vec_len l.notes ≡ vec_len l.fn.notes)
