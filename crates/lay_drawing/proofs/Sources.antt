-- Bytes of a source that are read one piece after the other.
use Rattle.std.proofs.Common.{◌≡◌, ℕ, List, [], ◌++◌, take, drop, refl, sym, ap, ◌∙◌, Option, Some, None, IfSome, subst, append_assoc, append-nil}
use Rattle.std.proofs.lemmas.List.{take-append-drop}
use Rattle.lay_outside.specs.Outside.{GivesNext, IsDrained}
use Rattle.lay_drawing.specs.declared.state.Reading.{Reading}
use Rattle.lay_drawing.specs.declared.state.Stop.{Stop}
use Rattle.lay_drawing.specs.declared.state.Stop.TheVariants.{BadLine, NoMemory}
use Rattle.lay_drawing.specs.Reports.{IsBadLine}
use Rattle.lay_drawing.specs.States.{HasRead, WasReport, StopsAtEnd, Reads, Stops}
use Rattle.lay_drawing.specs.Input.{HasReadFirst, HasReport, IsCause, fault_of}

pub first_none : (left : Option (List ℕ)) (s : Reading) → HasRead s [] → HasReadFirst left left s
first_none None s has = tt
first_none (Some all) s has = ([], all, refl, refl, has)

pub first_more : (left now new : Option (List ℕ)) (s t : Reading) (given : List ℕ) (n : ℕ) → HasReadFirst left now s → GivesNext now new given n → Reads s (take n given) t → HasReadFirst left new t
first_more None now new s t given n first next reads = tt
first_more (Some all) now new s t given n first next reads =
    let front : List ℕ = first.0 in
    let rest : List ℕ = first.1 in
    let next' = subst (λ (o : Option (List ℕ)). GivesNext o new given n) first.2 next in
    let e : take n given ++ drop n rest ≡ rest = ap (λ (ys : List ℕ). ys ++ drop n rest) next'.front ∙ take-append-drop n rest in
    (front ++ take n given, drop n rest, next'.rest, first.3 ∙ ap (λ (ys : List ℕ). front ++ ys) (sym e) ∙ sym (append_assoc front (take n given) (drop n rest)), reads.reads front first.4)

-- all was read where nothing is left
all_read : (all front rest : List ℕ) (now : Option (List ℕ)) → now ≡ Some rest → all ≡ front ++ rest → IfSome now (λ bytes. bytes ≡ []) → front ≡ all
all_read all front rest now is parts empty =
    let none : rest ≡ [] = subst (λ (o : Option (List ℕ)). IfSome o (λ bytes. bytes ≡ [])) is empty in
    sym (parts ∙ ap (λ (ys : List ℕ). front ++ ys) none ∙ append-nil front)

pub has_report : (left now : Option (List ℕ)) (s : Reading) → HasReadFirst left now s → IfSome now (λ bytes. bytes ≡ []) → ((bytes : List ℕ) → HasRead s bytes → WasReport s bytes) → HasReport left s
has_report None now s first empty was = tt
has_report (Some all) now s first empty was = was all (subst (HasRead s) (all_read all first.0 first.1 now first.2 first.3 empty) first.4)

pub is_drained : (left now new : Option (List ℕ)) (s : Reading) (given : List ℕ) → HasReadFirst left now s → GivesNext now new given 0 → IfSome now (λ bytes. bytes ≡ []) → IsDrained left new
is_drained None now new s given first next empty = tt
is_drained (Some all) now new s given first next empty =
    let next' = subst (λ (o : Option (List ℕ)). GivesNext o new given 0) first.2 next in
    let none = subst (λ (o : Option (List ℕ)). IfSome o (λ bytes. bytes ≡ [])) first.2 empty in
    next'.rest ∙ ap (λ (ys : List ℕ). Some (drop 0 ys)) none

pub bad_end : (old fall : ℕ) (left now : Option (List ℕ)) (s : Reading) (stop : Stop) → HasReadFirst left now s → IfSome now (λ bytes. bytes ≡ []) → StopsAtEnd s stop → IsCause old fall left (fault_of stop)
bad_end old fall left now s NoMemory first empty stops = tt
bad_end old fall None now s (BadLine number) first empty stops = tt
bad_end old fall (Some all) now s (BadLine number) first empty stops = stops all (subst (HasRead s) (all_read all first.0 first.1 now first.2 first.3 empty) first.4)

pub bad_piece : (old fall : ℕ) (left now new : Option (List ℕ)) (s : Reading) (stop : Stop) (given : List ℕ) (n : ℕ) → HasReadFirst left now s → GivesNext now new given n → Stops s (take n given) stop → IsCause old fall left (fault_of stop)
bad_piece old fall left now new s NoMemory given n first next stops = tt
bad_piece old fall None now new s (BadLine number) given n first next stops = tt
bad_piece old fall (Some all) now new s (BadLine number) given n first next stops =
    let front : List ℕ = first.0 in
    let rest : List ℕ = first.1 in
    let next' = subst (λ (o : Option (List ℕ)). GivesNext o new given n) first.2 next in
    let e : take n given ++ drop n rest ≡ rest = ap (λ (ys : List ℕ). ys ++ drop n rest) next'.front ∙ take-append-drop n rest in
    let whole : (front ++ take n given) ++ drop n rest ≡ all = append_assoc front (take n given) (drop n rest) ∙ ap (λ (ys : List ℕ). front ++ ys) e ∙ sym first.3 in
    subst (λ (ys : List ℕ). IsBadLine ys number) whole (stops front (drop n rest) first.4)
