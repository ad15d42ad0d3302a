-- What threads find of the claims of a batch, and what is noted of it. Each find is that of the claim at its place.
use Rattle.std.specs.Prelude.{ℕ, ◌≡◌, List, slice_get, Option, Some, IfSome}
use Rattle.std.specs.List.{All}
use Rattle.lay_cell_work.specs.Claims.{Claim}
use Rattle.lay_cell_work.specs.ClaimLists.Outcomes.{IsWorkOf, Work}
use Rattle.lay_pool.specs.declared.member.Found.{Found}

-- the work at a place, if any was done, is that of the claim there
abbrev pub IsOfPlace : List Claim → ℕ → Option Work → Type 0
IsOfPlace claims place done = IfSome done (λ d. (c : Claim) × (slice_get claims place ≡ Some c) × IsWorkOf c d)

abbrev pub IsFoundOf : List Claim → Found → Type 0
IsFoundOf claims f = IsOfPlace claims f.place f.done

abbrev pub AreFoundOf : List Claim → List Found → Type 0
AreFoundOf claims finds = All (IsFoundOf claims) finds

-- at each place nothing is noted yet, or what came of the claim there
abbrev pub AreNotesOf : List Claim → List (Option (Option Work)) → Type 0
AreNotesOf claims notes = (place : ℕ) (done : Option Work) → slice_get notes place ≡ Some (Some done) → IsOfPlace claims place done
