-- The run and the sheet of an object whose nodes were read apart from its other members.
use Rattle.std.proofs.Common.{◌≡◌, ℕ, List, [], ◌∷◌, ◌++◌, Option, Some, None, codes, is_some, refl, sym, ap, ◌∙◌, ok_or, Result, Ok, Err, if◌then◌else◌}
use Rattle.serde_json.specs.Data.{Data, array, object, Items, item, no_members, put}
use Rattle.serde_json.specs.Find.{get, get_member}
use Rattle.lay_json.specs.Spans.Readings.{put_all}
use Rattle.lay_json.specs.Spans.Laws.{or_else}
use Rattle.lay_json.proofs.SpansLemmas.Whole.{last_names, found_in}
use Rattle.lay_run.specs.Runs.{Run}
use Rattle.lay_json.specs.declared.fault.InputFault.{InputFault}
use Rattle.lay_json.specs.declared.fault.InputFault.TheVariants.{Missing}
use Rattle.lay_json.specs.declared.fault.Field.TheVariants.{Viewport, Face, Nodes, Editors, Sheet}
use Rattle.lay_json.specs.declared.fault.Spot.TheVariants.{Run as in_run}
use Rattle.lay_json.specs.declared.sheet_in.SheetIn.{SheetIn}
use Rattle.lay_json.specs.declared.taken.Taken.{Taken}
use Rattle.lay_json.specs.Fields.{then_read, map_read, value_in, text_of, sides_of}
use Rattle.lay_json.specs.FaceFields.{run_face}
use Rattle.lay_json.specs.Nodes.{document_of}
use Rattle.lay_json.specs.Editors.{scripts_of}
use Rattle.lay_json.specs.RunDocument.{node_list, editor_list, viewport_sides, run_of}
use Rattle.lay_json.specs.SheetNames.{names_from, nodes_in, with_sheet, sheet_of, input_of}
use Rattle.lay_json.specs.Pulled.{more_names, IsTaken, IsAfter, editors_at, scripts_in, sheet_text, input_with, read_with}

-- what two objects say of a field is the same where the field has the same value in both
pub same_viewport : (a b : Data) → value_in Viewport a ≡ value_in Viewport b → viewport_sides a ≡ viewport_sides b
same_viewport a b e = ap (λ o. then_read (ok_or o (Missing Viewport in_run)) (sides_of Viewport in_run)) e

pub same_face : (a b : Data) → value_in Face a ≡ value_in Face b → run_face a ≡ run_face b
same_face a b e = rw e refl

pub same_editors : (a b : Data) → value_in Editors a ≡ value_in Editors b → editor_list a ≡ editor_list b
same_editors a b e = rw e refl

pub same_text : (a b : Data) → value_in Sheet a ≡ value_in Sheet b → sheet_text a ≡ sheet_text b
same_text a b e = rw e refl

same_sheet : (a : Data) → value_in Sheet a ≡ None → sheet_of a ≡ Ok (record { sheet = None; names = [] })
same_sheet a e = rw e refl

some_sheet : (a s : Data) → value_in Sheet a ≡ Some s → sheet_of a ≡ with_sheet a s
some_sheet a s e = rw e refl

some_text : (a s : Data) → value_in Sheet a ≡ Some s → sheet_text a ≡ map_read Some (text_of Sheet in_run s)
some_text a s e = rw e refl

no_text : (a : Data) → value_in Sheet a ≡ None → sheet_text a ≡ Ok None
no_text a e = rw e refl

listed_nodes : (a : Data) (ds : Items) → value_in Nodes a ≡ Some (array ds) → nodes_in a ≡ ds
listed_nodes a ds e = rw e refl

first_nodes : (a first : Data) (rest : Items) → value_in Nodes a ≡ Some (array (item first rest)) → node_list a ≡ Ok (first, rest)
first_nodes a first rest e = rw e refl

-- what was read
then_ok : {A B : Type 0} (r : Result A InputFault) (f : A → Result B InputFault) (b : B) → then_read r f ≡ Ok b → (a : A) × (r ≡ Ok a) × (f a ≡ Ok b)
then_ok (Ok a) f b e = (a, refl, e)
then_ok (Err fault) f b e = absurd cc

map_ok : {A B : Type 0} (r : Result A InputFault) (f : A → B) (b : B) → map_read f r ≡ Ok b → (a : A) × (r ≡ Ok a) × (f a ≡ b)
map_ok (Ok a) f b e = (a, refl, cc)
map_ok (Err fault) f b e = absurd cc

then_is : {A B : Type 0} (r : Result A InputFault) (f : A → Result B InputFault) (a : A) → r ≡ Ok a → then_read r f ≡ f a
then_is r f a e = ap (λ x. then_read x f) e

module _ (ms ns : List (List ℕ × Data)) (first : Data) (rest : Items) where
  abbrev all : List (List ℕ × Data)
  all = ms ++ (codes "nodes", array (item first rest)) ∷ ns

  abbrev before : Data
  before = object (put_all ms no_members)

  abbrev later : Data
  later = object (put_all ns no_members)

  abbrev whole : Data
  whole = object (put_all all no_members)

  found : (q : List ℕ) → get q whole ≡ or_else (or_else (get q later) (get_member q (put (codes "nodes") (array (item first rest)) no_members))) (get q before)
  found q =
      last_names q ms ((codes "nodes", array (item first rest)) ∷ ns)
      ∙ ap (λ o. or_else o (get q before)) (found_in q ns (put (codes "nodes") (array (item first rest)) no_members))

  module _ (after : IsAfter later) (no_nodes : get_member (codes "nodes") (put_all ns no_members) ≡ None) where
    viewport_at : value_in Viewport whole ≡ value_in Viewport before
    viewport_at = found (codes "viewport") ∙ ap (λ o. or_else (or_else o None) (value_in Viewport before)) after.0

    face_at : value_in Face whole ≡ value_in Face before
    face_at = found (codes "face") ∙ ap (λ o. or_else (or_else o None) (value_in Face before)) after.1

    sheet_at : value_in Sheet whole ≡ value_in Sheet before
    sheet_at = found (codes "sheet") ∙ ap (λ o. or_else (or_else o None) (value_in Sheet before)) after.2

    nodes_at : value_in Nodes whole ≡ Some (array (item first rest))
    nodes_at = found (codes "nodes") ∙ ap (λ o. or_else (or_else o (Some (array (item first rest)))) (value_in Nodes before)) no_nodes

    editors_there : value_in Editors whole ≡ value_in Editors (editors_at before later)
    editors_there = found (codes "editors") ∙ by_later (value_in Editors later) refl
      where
        by_later : (o : Option Data) → value_in Editors later ≡ o → or_else (or_else o None) (value_in Editors before) ≡ value_in Editors (if is_some o then later else before)
        by_later None e = refl
        by_later (Some d) e = sym e

    module _ (viewport : ℕ × ℕ) (taken : Taken) (input : Run × SheetIn) (sized : viewport_sides before ≡ Ok viewport) (was : IsTaken viewport (is_some (value_in Sheet before)) first rest taken) where
      sheet_read : (o : Option Data) (text : Option (List ℕ)) → value_in Sheet before ≡ o → sheet_text before ≡ Ok text → more_names (is_some o) [] (item first rest) ≡ Ok taken.names
          → sheet_of whole ≡ Ok (record { sheet = text; names = taken.names })
      sheet_read None text e said called =
          let none : None ≡ text = cc (sym (no_text before e) ∙ said) in
          let empty : [] ≡ taken.names = cc called in
          same_sheet whole (sheet_at ∙ e) ∙ ap (λ (t : Option (List ℕ)). Ok (record { sheet = t; names = [] })) none ∙ ap (λ n. Ok (record { sheet = text; names = n })) empty
      sheet_read (Some s) text e said called =
          let t = map_ok (text_of Sheet in_run s) Some text (sym (some_text before s e) ∙ said) in
          some_sheet whole s (sheet_at ∙ e) ∙ then_is (text_of Sheet in_run s) _ t.0 t.1
          ∙ ap (λ ds. map_read (λ names. record { sheet = Some t.0; names = names }) (names_from [] ds)) (listed_nodes whole (item first rest) nodes_at)
          ∙ ap (λ r. map_read (λ names. record { sheet = Some t.0; names = names }) r) called ∙ ap (λ (o : Option (List ℕ)). Ok (record { sheet = o; names = taken.names })) t.2

      pub input_read : read_with before later taken ≡ Ok input → input_of whole ≡ Ok input
      input_read said =
          let face = then_ok (run_face before) _ input said in
          let scripts = then_ok (scripts_in before later) _ input face.2 in
          let text = map_ok (sheet_text before) _ input scripts.2 in
          let editors = then_ok (editor_list (editors_at before later)) scripts_of scripts.0 scripts.1 in
          let run : run_of whole ≡ Ok (input_with taken face.0 scripts.0 text.0).0 =
          then_is (viewport_sides whole) _ viewport (same_viewport whole before viewport_at ∙ sized)
          ∙ then_is (run_face whole) _ face.0 (same_face whole before face_at ∙ face.1)
          ∙ then_is (node_list whole) _ (first, rest) (first_nodes whole first rest nodes_at)
          ∙ then_is (editor_list whole) _ editors.0 (same_editors whole (editors_at before later) editors_there ∙ editors.1)
          ∙ then_is (document_of viewport first rest) _ taken.doc was.0
          ∙ then_is (scripts_of editors.0) _ scripts.0 editors.2
          ∙ ap (λ ids. Ok (record { doc = taken.doc; face = face.0; scripts = scripts.0; listed = ids })) (sym was.1) in
          let sheet = sheet_read (value_in Sheet before) text.0 refl text.1 was.2 in
          then_is (run_of whole) _ (input_with taken face.0 scripts.0 text.0).0 run
          ∙ ap (λ r. map_read (λ s. ((input_with taken face.0 scripts.0 text.0).0, s)) r) sheet ∙ ap Ok text.2
