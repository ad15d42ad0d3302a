-- Outcomes of claims that are handed in: each is answered as finished work or as a claim that comes back, and each answer is counted.
use Rattle.std.specs.Prelude.{ℕ, ◌≡◌, ◌+◌, Bool, true, false, List, [], ◌∷◌, ◌++◌, cond, count_by}
use Rattle.lay_cells.specs.declared.answers.Finished.{Finished}
use Rattle.lay_cells.specs.declared.answers.Finished.TheVariants as finish
use Rattle.lay_cells.specs.declared.answers.Released.{Released}
use Rattle.lay_cells.specs.declared.answers.Released.TheVariants as release
use Rattle.lay_cell_work.specs.declared.claim_lists.outcome.Outcome.{Outcome}
use Rattle.lay_cell_work.specs.declared.claim_lists.outcome.Outcome.TheVariants as outcome
use Rattle.lay_document_cells.specs.State.{State}
use Rattle.lay_document_cells.specs.Steps.{CellsFinishTo, CellsGiveBackTo}

-- what an outcome is answered: work that is finished, or a claim that comes back
pub data Reply : Type 0 where
  finished : Finished → Reply
  released : Released → Reply

-- an outcome is handed in, and answered so
abbrev pub HandsIn : State → Outcome → Reply → State → Type 0
HandsIn s (outcome.Done d) (finished answer) t = CellsFinishTo s d answer t
HandsIn s (outcome.Done d) (released answer) t = ⊥
HandsIn s (outcome.NoMemory claim) (finished answer) t = ⊥
HandsIn s (outcome.NoMemory claim) (released answer) t = CellsGiveBackTo s claim.key claim.number answer t

-- so are outcomes one after another
pub data HandsInEach (s : State) : List Outcome → List Reply → State → Type 0 where
  start : HandsInEach s [] [] s
  more : (outcomes : List Outcome) (replies : List Reply) (o : Outcome) (reply : Reply) (mid t : State) → HandsInEach s outcomes replies mid
      → HandsIn mid o reply t → HandsInEach s (outcomes ++ o ∷ []) (replies ++ reply ∷ []) t

abbrev pub is_cleaned : Reply → Bool
is_cleaned (finished finish.Cleaned) = true
is_cleaned (finished finish.Stored) = false
is_cleaned (finished (finish.Superseded n)) = false
is_cleaned (finished finish.Gone) = false
is_cleaned (released answer) = false

abbrev pub is_stored : Reply → Bool
is_stored (finished finish.Cleaned) = false
is_stored (finished finish.Stored) = true
is_stored (finished (finish.Superseded n)) = false
is_stored (finished finish.Gone) = false
is_stored (released answer) = false

-- another claim of the cell came after that one
abbrev pub is_superseded : Reply → Bool
is_superseded (finished finish.Cleaned) = false
is_superseded (finished finish.Stored) = false
is_superseded (finished (finish.Superseded n)) = true
is_superseded (finished finish.Gone) = false
is_superseded (released release.Released) = false
is_superseded (released (release.Superseded n)) = true
is_superseded (released release.Gone) = false

-- the cell is no longer there
abbrev pub is_gone : Reply → Bool
is_gone (finished finish.Cleaned) = false
is_gone (finished finish.Stored) = false
is_gone (finished (finish.Superseded n)) = false
is_gone (finished finish.Gone) = true
is_gone (released release.Released) = false
is_gone (released (release.Superseded n)) = false
is_gone (released release.Gone) = true

abbrev pub is_back : Reply → Bool
is_back (finished answer) = false
is_back (released release.Released) = true
is_back (released (release.Superseded n)) = false
is_back (released release.Gone) = false

pub record Tally : Type 0 where
  pub cleaned : ℕ
  pub stored : ℕ
  pub superseded : ℕ
  pub gone : ℕ
  pub back : ℕ

abbrev pub tally_of : List Reply → Tally
tally_of replies =
    record {
      cleaned = count_by is_cleaned replies;
      stored = count_by is_stored replies;
      superseded = count_by is_superseded replies;
      gone = count_by is_gone replies;
      back = count_by is_back replies;
    }

-- each outcome is handed in, in order, and each count is the number of the replies that it is of
pub record CellsFinishAll (s : State) (outcomes : List Outcome) (tally : Tally) (t : State) : Type 0 where
  pub replies : List Reply
  pub each : HandsInEach s outcomes replies t
  pub counts : tally ≡ tally_of replies

abbrev pub tally_sum : Tally → ℕ
tally_sum t = t.cleaned + t.stored + t.superseded + t.gone + t.back

-- before any reply, and with one more
abbrev pub no_answers : Tally
no_answers = record { cleaned = 0; stored = 0; superseded = 0; gone = 0; back = 0 }

abbrev pub tallied : Tally → Reply → Tally
tallied t reply =
    record {
      cleaned = t.cleaned + cond (is_cleaned reply) 1 0;
      stored = t.stored + cond (is_stored reply) 1 0;
      superseded = t.superseded + cond (is_superseded reply) 1 0;
      gone = t.gone + cond (is_gone reply) 1 0;
      back = t.back + cond (is_back reply) 1 0;
    }
