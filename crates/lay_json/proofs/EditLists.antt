-- Edits that are read one after the other.
use Rattle.std.proofs.Common.{◌≡◌, ◌≢◌, ℕ, Bool, true, false, List, [], ◌∷◌, ◌++◌, Result, Ok, Err, refl, sym, ap, ◌∙◌, append_assoc, if◌then◌else◌}
use Rattle.std.specs.Result.{IsErr, IsErrAnd}
use Rattle.serde_json.specs.Data.{Data, Items, item}
use Rattle.lay_doc.specs.declared.edit.Edit.{Edit}
use Rattle.lay_json.specs.declared.fault.Field.TheVariants.{Edits}
use Rattle.lay_json.specs.declared.fault.Spot.{Spot}
use Rattle.lay_json.specs.declared.fault.Spot.TheVariants.{Command as in_command}
use Rattle.lay_json.specs.declared.fault.InputFault.{InputFault}
use Rattle.lay_json.specs.declared.fault.InputFault.TheVariants.{NoMemory, BatchTooLong}
use Rattle.lay_json.specs.Fields.{Changes, Gives, has_at_most, list_of, map_read, required, then_read}
use Rattle.lay_json.specs.EditCommands.{edit_of}
use Rattle.lay_json.specs.Commands.{batch_of, few_edits, listed_edits, not_empty}

joined : (before : List Edit) (e : Edit) (read : Result (List Edit) InputFault)
    → map_read (λ es. (before ++ e ∷ []) ++ es) read ≡ map_read (λ es. before ++ es) (map_read (λ es. e ∷ es) read)
joined before e (Ok es) = ap Ok (append_assoc before (e ∷ []) es)
joined before e (Err fault) = refl

-- with the next edit there are those from it on
pub one_more : (place : Spot) (before after : List Edit) (d : Data) (ds : Items) → map_read (λ e. before ++ e ∷ []) (edit_of place d) ≡ Ok after
    → map_read (λ es. after ++ es) (listed_edits place ds) ≡ map_read (λ es. before ++ es) (listed_edits place (item d ds))
one_more place before after d ds is = from (edit_of place d) is
  where
    from : (read : Result Edit InputFault) → map_read (λ e. before ++ e ∷ []) read ≡ Ok after
        → map_read (λ es. after ++ es) (listed_edits place ds) ≡ map_read (λ es. before ++ es) (then_read read (λ e. map_read (λ es. e ∷ es) (listed_edits place ds)))
    from (Ok e) given = let same : before ++ e ∷ [] ≡ after = cc in rw (← same) (joined before e (listed_edits place ds))
    from (Err fault) given = absurd cc

-- where the next is none, its fault is that of all
pub none_more : (place : Spot) (before : List Edit) (d : Data) (ds : Items) (fault : InputFault) → map_read (λ e. before ++ e ∷ []) (edit_of place d) ≡ Err fault
    → map_read (λ es. before ++ es) (listed_edits place (item d ds)) ≡ Err fault
none_more place before d ds fault is = from (edit_of place d) is
  where
    from : (read : Result Edit InputFault) → map_read (λ e. before ++ e ∷ []) read ≡ Err fault
        → map_read (λ es. before ++ es) (then_read read (λ e. map_read (λ es. e ∷ es) (listed_edits place ds))) ≡ Err fault
    from (Ok e) given = absurd cc
    from (Err other) given = given

-- the first one begins the list
pub starts : (place : Spot) (first : List Edit) (d : Data) (ds : Items) (e : Edit) → edit_of place d ≡ Ok e → first ≡ e ∷ []
    → listed_edits place (item d ds) ≡ map_read (λ es. first ++ es) (listed_edits place ds)
starts place first d ds e is one = rw one (from (edit_of place d) is)
  where
    from : (read : Result Edit InputFault) → read ≡ Ok e
        → then_read read (λ x. map_read (λ es. x ∷ es) (listed_edits place ds)) ≡ map_read (λ es. (e ∷ []) ++ es) (listed_edits place ds)
    from (Ok x) given = let same : x ≡ e = cc in rw same refl
    from (Err other) given = absurd cc

-- a fault of the next edit is that of all, as of those before it
pub stopped : (place : Spot) (start before new : List Edit) (all left : Items) (d : Data) (ds : Items) (fault : InputFault) (r : Result (Unit {0}) InputFault) → left ≡ item d ds
    → map_read (λ es. before ++ es) (listed_edits place left) ≡ map_read (λ es. start ++ es) (listed_edits place all)
    → (fault ≢ NoMemory → map_read (λ e. before ++ e ∷ []) (edit_of place d) ≡ Err fault) → IsErr r × IsErrAnd r (λ v. v ≡ fault)
    → Changes r new (map_read (λ es. start ++ es) (listed_edits place all))
stopped place start before new all left d ds fault (Ok done) next same first is = absurd (let e : false ≡ true = is.0 in cc)
stopped place start before new all left d ds fault (Err v) next same first is = λ other.
    let none = none_more place before d ds fault (first (λ none. other (is.1 ∙ none))) in
    sym same ∙ (ap (λ (ls : Items). map_read (λ es. before ++ es) (listed_edits place ls)) next ∙ (none ∙ ap Err (sym is.1)))

-- a fault of what is read is that of the same, said in other words
pub gives_fault : {A : Type 0} (r : Result A InputFault) (fault : InputFault) (read same : Result A InputFault) → same ≡ read → (fault ≢ NoMemory → read ≡ Err fault)
    → IsErr r × IsErrAnd r (λ v. v ≡ fault) → Gives r same
gives_fault (Ok a) fault read same is first end = absurd (let e : false ≡ true = end.0 in cc)
gives_fault (Err v) fault read same is first end = λ other. is ∙ (first (λ none. other (end.1 ∙ none)) ∙ ap Err (sym end.1))

-- what is read next, where the part before is read
goes_on : {A B : Type 0} (read : Result A InputFault) (a : A) (next : A → Result B InputFault) → Ok a ≡ read → then_read read next ≡ next a
goes_on {A} {B} read a next is = ap (λ (r : Result A InputFault). then_read r next) (sym is)

-- a batch whose list is there, isn't empty and isn't too long has the edits of the list
pub batch_read : (editor index : ℕ) (d value : Data) (all : Items) (first : Data) (rest : Items) (e : Edit) (edits : List Edit)
    → Ok value ≡ required Edits (in_command editor index) d → Ok all ≡ list_of Edits (in_command editor index) value → all ≡ item first rest → has_at_most 1024 all ≡ true
    → edit_of (in_command editor index) first ≡ Ok e → edits ≡ e ∷ []
    → batch_of editor index d ≡ map_read (λ es. edits ++ es) (listed_edits (in_command editor index) rest)
batch_read editor index d value all first rest e edits there list some few form one =
    let whole : Ok (item first rest) ≡ not_empty (in_command editor index) all = ap (not_empty (in_command editor index)) (sym some) in
    let fits : has_at_most 1024 (item first rest) ≡ true = ap (has_at_most 1024) (sym some) ∙ few in
    let short : Ok (item first rest) ≡ few_edits editor index (item first rest) =
    sym (ap (λ (b : Bool). if b then Ok (item first rest) else Err (BatchTooLong editor index)) fits) in
    goes_on (required Edits (in_command editor index) d) value _ there
    ∙ (goes_on (list_of Edits (in_command editor index) value) all _ list
    ∙ (goes_on (not_empty (in_command editor index) all) (item first rest) _ whole
    ∙ (goes_on (few_edits editor index (item first rest)) (item first rest) _ short
    ∙ starts (in_command editor index) edits first rest e form one)))
