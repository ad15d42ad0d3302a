-- What is left to note, and what is noted, is of the claims at its places.
use Rattle.std.proofs.Common.{◌≡◌, vec_len, length}
use Rattle.std.specs.List.{All}
use Rattle.std.specs.Vec.Iter.{into_iter_items, into_iter_len}
use Rattle.lay_pool.specs.Finds.{AreFoundOf, AreNotesOf}
use Rattle.lay_pool.proofs.notes.note_all.Given as goal

abbrev pub invariant-loop-finds : goal.invariant-loop-finds
invariant-loop-finds l =
    All (AreFoundOf l.claims) (into_iter_items l.finds-iterator)
    × (into_iter_len l.finds-iterator ≡ length (into_iter_items l.finds-iterator))
    × AreNotesOf l.claims l.notes.items × (vec_len l.notes ≡ vec_len l.fn.notes)
