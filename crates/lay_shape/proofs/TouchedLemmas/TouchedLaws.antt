-- The laws of touched keys.
use Rattle.std.proofs.Common.{◌≡◌, inl, inr, ⊎_elim, ℕ, ◌<◌, List, [], ◌∷◌, length, refl, ap, sym, subst, ◌∙◌}
use Rattle.std.specs.List.{flat_map}
use Rattle.lay_cells.specs.Shapes.{IsEachOnce, IsIn}
use Rattle.lay_contexts.specs.Contexts.{Context}
use Rattle.lay_contexts.specs.FormattingContexts.{FormattingContext}
use Rattle.lay_context.specs.declared.task.Phase.{Phase}
use Rattle.lay_context.specs.declared.task.Phase.TheVariants.{Measure, Size, Place}
use Rattle.lay_shape.specs.declared.cell_key.CellKey.{CellKey}
use Rattle.lay_shape.specs.Dependencies.{in_phase}
use Rattle.lay_shape.specs.Keys.{AreOfOwnNodes, key_of, node_of}
use Rattle.lay_shape.proofs.Members.{from_flat_map, in_flat_map, in_cases, in_here, in_none, in_there}
use Rattle.lay_shape.proofs.Once.{once_append, once_first, once_more, once_none, once_rest}
use Rattle.lay_shape.specs.Touched.Laws.{ListedKeysAreOfTouchedContexts, OneListOfTouchedKeys, TouchedContextsAreListed, TouchedKeysStandOnce, UnlistedContextsAreUntouched}
use Rattle.lay_shape.specs.Touched.TouchedKeys.{AreTouchedTo, keys_of}
use Rattle.lay_shape.proofs.TouchedLemmas.RisingNumbers.{one_rising, rising_once}

-- each list has the elements of the other
same_numbers : (contexts later : List Context) (all rest : List FormattingContext) (xs ys : List ℕ) (n : ℕ) → AreTouchedTo contexts later all rest xs n
    → AreTouchedTo contexts later all rest ys n → (j : ℕ) → IsIn xs j → IsIn ys j
same_numbers contexts later all rest xs ys n a b j has = ⊎_elim (λ l. l) (λ u. absurd (a.touched j has u)) (b.others j (a.within j has))

pub one_list_of_touched_keys_lem : OneListOfTouchedKeys
one_list_of_touched_keys_lem contexts later all rest keys others a b =
    let same = one_rising a.numbers b.numbers a.are.rising b.are.rising
    (same_numbers contexts later all rest a.numbers b.numbers (length later) a.are b.are) (same_numbers contexts later all rest b.numbers a.numbers (length later) b.are a.are) in
    a.keys_are ∙ (ap (flat_map (keys_of later)) same ∙ sym b.keys_are)

key_listed : (later : List Context) (j : ℕ) (phase : Phase) → IsIn (keys_of later j) (key_of later (in_phase phase j))
key_listed later j Measure = (0, refl)
key_listed later j Size = (1, refl)
key_listed later j Place = (2, refl)

pub touched_contexts_are_listed_lem : TouchedContextsAreListed
touched_contexts_are_listed_lem contexts later all rest keys are j lt =
    ⊎_elim
    (λ has. inr (λ phase. subst (λ (ks : List CellKey). IsIn ks (key_of later (in_phase phase j))) (sym are.keys_are)
    (in_flat_map (keys_of later) are.numbers j (key_of later (in_phase phase j)) has (key_listed later j phase))))
    (λ u. inl u)
    (are.are.others j lt)

-- a key in a context's list is of that context
own_key : (later : List Context) (j : ℕ) (key : CellKey) → IsIn (keys_of later j) key → key ≡ key_of later (in_phase key.phase j)
own_key later j key has =
    ⊎_elim (λ e. is Measure e)
    (λ more. ⊎_elim (λ e. is Size e)
    (λ last. ⊎_elim (λ e. is Place e) (λ none. absurd (in_none key none))
    (in_cases (key_of later (in_phase Place j)) key [] last))
    (in_cases (key_of later (in_phase Size j)) key (key_of later (in_phase Place j) ∷ []) more))
    (in_cases (key_of later (in_phase Measure j)) key (key_of later (in_phase Size j) ∷ key_of later (in_phase Place j) ∷ []) has)
  where
    is : (phase : Phase) → key ≡ key_of later (in_phase phase j) → key ≡ key_of later (in_phase key.phase j)
    is phase e = e ∙ ap (λ (p : Phase). key_of later (in_phase p j)) (sym (ap (λ (k : CellKey). k.phase) e))

pub listed_keys_are_of_touched_contexts_lem : ListedKeysAreOfTouchedContexts
listed_keys_are_of_touched_contexts_lem contexts later all rest keys key are has =
    let part = from_flat_map (keys_of later) are.numbers key (subst (λ (ks : List CellKey). IsIn ks key) are.keys_are has) in (
      part.x,
      record {
        within = are.are.within part.x part.there;
        touched = are.are.touched part.x part.there;
        is = own_key later part.x key part.inside;
      },
    )

-- no phase has two keys
phases_once : (later : List Context) (j : ℕ) → IsEachOnce (keys_of later j)
phases_once later j =
    once_more (key_of later (in_phase Measure j)) (key_of later (in_phase Size j) ∷ key_of later (in_phase Place j) ∷ [])
    (λ has. ⊎_elim (λ e. absurd (let p = ap (λ (k : CellKey). k.phase) e in cc))
    (λ last. ⊎_elim (λ e. absurd (let p = ap (λ (k : CellKey). k.phase) e in cc)) (λ none. in_none (key_of later (in_phase Measure j)) none)
    (in_cases (key_of later (in_phase Place j)) (key_of later (in_phase Measure j)) [] last))
    (in_cases (key_of later (in_phase Size j)) (key_of later (in_phase Measure j)) (key_of later (in_phase Place j) ∷ []) has))
    (once_more (key_of later (in_phase Size j)) (key_of later (in_phase Place j) ∷ [])
    (λ has. ⊎_elim (λ e. absurd (let p = ap (λ (k : CellKey). k.phase) e in cc)) (λ none. in_none (key_of later (in_phase Size j)) none)
    (in_cases (key_of later (in_phase Place j)) (key_of later (in_phase Size j)) [] has))
    (once_more (key_of later (in_phase Place j)) [] (λ none. in_none (key_of later (in_phase Place j)) none) once_none))

all_once : (later : List Context) (numbers : List ℕ) → AreOfOwnNodes later → IsEachOnce numbers → ((j : ℕ) → IsIn numbers j → j < length later)
    → IsEachOnce (flat_map (keys_of later) numbers)
all_once later [] apart once within = once_none
all_once later (n ∷ numbers) apart once within =
    once_append (keys_of later n) (flat_map (keys_of later) numbers) (phases_once later n)
    (all_once later numbers apart (once_rest n numbers once) (λ j has. within j (in_there n j numbers has)))
    (λ key here more.
    (let part = from_flat_map (keys_of later) numbers key more in
    let same : node_of later n ≡ node_of later part.x = ap (λ (k : CellKey). k.node) (sym (own_key later n key here) ∙ own_key later part.x key part.inside) in
    let e : n ≡ part.x = apart n part.x (within n (in_here n numbers)) (within part.x (in_there n part.x numbers part.there)) same in
    once_first n numbers once (subst (IsIn numbers) (sym e) part.there)))

pub touched_keys_stand_once_lem : TouchedKeysStandOnce
touched_keys_stand_once_lem contexts later all rest keys apart are =
    subst IsEachOnce (sym are.keys_are) (all_once later are.numbers apart (rising_once are.numbers are.are.rising) are.are.within)

pub unlisted_contexts_are_untouched_lem : UnlistedContextsAreUntouched
unlisted_contexts_are_untouched_lem contexts later all rest keys j phase are lt absent =
    ⊎_elim (λ u. u) (λ listed. absurd (absent (listed phase))) (touched_contexts_are_listed_lem contexts later all rest keys are j lt)
