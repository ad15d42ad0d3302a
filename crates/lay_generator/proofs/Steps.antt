-- One step of each of the generator's walks.
use Rattle.std.proofs.Common.{◌≡◌, ℕ, zero, suc, ◌+◌, ◌-◌, ◌*◌, ◌<◌, ◌≤◌, Bool, true, false, List, [], ◌∷◌, ◌++◌, length, drop, slice_get, get_or, refl, sym, ap, ◌∙◌, arith, Option, Some, None, append_assoc}
use Rattle.std.specs.List.{filter, range_with_len}
use Rattle.std.proofs.lemmas.Grind.{common_steps}
use Rattle.std.proofs.lemmas.Option.{slice_get-get_or}
use Rattle.std.proofs.lemmas.List.Sums.{sum_by-append}
use Rattle.std.proofs.lemmas.List.{length-append}
use Rattle.lay_run.specs.Scripts.{command_count, read_count, reads_of}
use Rattle.lay_doc.specs.declared.node.NodeId.{NodeId}
use Rattle.lay_doc.specs.NewNodes.{NewNodeValue}
use Rattle.lay_doc.specs.Document.{Document}
use Rattle.lay_doc.specs.declared.edit.EditFault.{EditFault}
use Rattle.lay_doc.specs.Edits.{insert_fault, last_index}
use Rattle.lay_history.specs.declared.edits.command.Cmd.{Cmd}
use Rattle.lay_doc.specs.declared.edit.Edit.{Edit}
use Rattle.lay_json.specs.Nodes.{without_fault}
use Rattle.lay_face.specs.FaceValue.{FaceValue}
use Rattle.lay_run.specs.Runs.{IsListed, Run}
use Rattle.lay_json.proofs.Listed.{put_listed}
use Rattle.lay_frag.specs.declared.frag.Frag.{Frag}
use Rattle.lay_generator.specs.Draws.{next, state_after}
use Rattle.lay_generator.specs.Nodes.{more_words, section_end, section_nodes, sections, sections_end, word}
use Rattle.lay_generator.specs.Commands.{is_section_of, set_paddings, script, script_end, scripts, set_padding}
use Rattle.lay_generator.specs.Generated.{ids, with_node, with_nodes}
use Rattle.lay_generator.specs.Summary.{mark_from, piece_mark}

pub words_step : (n state : ℕ) → 0 < n → more_words n state ≡ (32 ∷ word state) ++ more_words (n - 1) (next state)
words_step zero state some = absurd (omega arith)
words_step (suc n) state some = let e : suc n - 1 ≡ n = omega arith in rw e refl

pub state_step : (n state : ℕ) → 0 < n → state_after n state ≡ state_after (n - 1) (next state)
state_step zero state some = absurd (omega arith)
state_step (suc n) state some = let e : suc n - 1 ≡ n = omega arith in rw e refl

pub sections_step : (n section state : ℕ) → 0 < n → sections n section state ≡ section_nodes section state ++ sections (n - 1) (section + 1) (section_end state)
sections_step zero section state some = absurd (omega arith)
sections_step (suc n) section state some = let e : suc n - 1 ≡ n = omega arith in rw e refl

pub sections_end_step : (n state : ℕ) → 0 < n → sections_end n state ≡ sections_end (n - 1) (section_end state)
sections_end_step zero state some = absurd (omega arith)
sections_end_step (suc n) state some = let e : suc n - 1 ≡ n = omega arith in rw e refl

pub range_step : (a n : ℕ) → 0 < n → range_with_len a n ≡ a ∷ range_with_len (a + 1) (n - 1)
range_step a zero some = absurd (omega arith)
range_step a (suc n) some = let e : suc n - 1 ≡ n = omega arith in rw e refl

pub scripts_step : (size n editor state : ℕ) → 0 < n → scripts size n editor state ≡ script size editor state ∷ scripts size (n - 1) (editor + 1) (script_end size editor state)
scripts_step size zero editor state some = absurd (omega arith)
scripts_step size (suc n) editor state some = let e : suc n - 1 ≡ n = omega arith in rw e refl

pub nodes_more : (d : Document) (xs ys : List (NodeId × NewNodeValue)) → with_nodes d (xs ++ ys) ≡ with_nodes (with_nodes d xs) ys
nodes_more d [] ys = refl
nodes_more d (x ∷ xs) ys = nodes_more (with_node d x) xs ys

pub ids_more : (xs ys : List (NodeId × NewNodeValue)) → ids (xs ++ ys) ≡ ids xs ++ ids ys
ids_more [] ys = refl
ids_more (x ∷ xs) ys = ap (λ (is : List NodeId). x.1.id ∷ is) (ids_more xs ys)

pub mark_more : (mark : ℕ) (xs ys : List Frag) → mark_from mark (xs ++ ys) ≡ mark_from (mark_from mark xs) ys
mark_more mark [] ys = refl
mark_more mark (x ∷ xs) ys = mark_more (piece_mark mark x) xs ys

pub drop_step : {A : Type 0} (xs : List A) (k : ℕ) (x : A) → slice_get xs k ≡ Some x → drop k xs ≡ x ∷ drop (k + 1) xs
drop_step [] k x is = absurd cc
drop_step (y ∷ ys) zero x is = let e : y ≡ x = cc in ap (λ z. z ∷ ys) e
drop_step (y ∷ ys) (suc k) x is = let e : suc k + 1 ≡ suc (k + 1) = omega arith in rw e (drop_step ys k x is)

-- the edits for sections, and those for more
pub paddings_more : (xs ys : List ℕ) (state : ℕ) → set_paddings (xs ++ ys) state ≡ set_paddings xs state ++ set_paddings ys (state_after (length xs) state)
paddings_more [] ys state = refl
paddings_more (x ∷ xs) ys state = ap (λ (es : List Edit). set_padding x state ∷ es) (paddings_more xs ys (next state))

pub states_more : (a b state : ℕ) → state_after (a + b) state ≡ state_after b (state_after a state)
states_more zero b state = let e : 0 + b ≡ b = omega arith in rw e refl
states_more (suc a) b state = let e : suc a + b ≡ suc (a + b) = omega arith in rw e (states_more a b (next state))

pub by_bool : {P : Type 0} (b : Bool) → (b ≡ true → P) → (b ≡ false → P) → P
by_bool true t f = t refl
by_bool false t f = f refl

-- the sections of an editor, from the next one on
pub filter_step : (p : ℕ → Bool) (a : ℕ) (rest : List ℕ) → filter p (a ∷ rest) ≡ filter p (a ∷ []) ++ filter p rest
filter_step p a rest = by_bool (p a) (λ e. rw e refl) (λ e. rw e refl)

pub at_place : {A : Type 0} (xs : List A) (k : ℕ) (x : A) → k < length xs → x ≡ get_or xs k x → slice_get xs k ≡ Some x
at_place xs k x below is = slice_get-get_or xs k x below ∙ ap Some (sym is)

-- where a node has no fault, its document lists it behind the others
pub listed_put : (d : Document) (parent : NodeId) (node : NewNodeValue) (listed : List NodeId) → insert_fault d parent.0 (last_index d parent.0) node ≡ None → IsListed d listed
    → IsListed (with_node d (parent, node)) (listed ++ node.id ∷ [])
listed_put d parent node listed none is =
    put_listed d (with_node d (parent, node)) (parent, node) listed is
    (ap (λ (f : Option EditFault). without_fault (length d.nodes) f (with_node d (parent, node))) none)

rest_step : (editor k n : ℕ) → 0 < n → filter (is_section_of editor) (range_with_len k n) ≡ filter (is_section_of editor) (k ∷ []) ++ filter (is_section_of editor) (range_with_len (k + 1) (n - 1))
rest_step editor k n some = ap (filter (is_section_of editor)) (range_step k n some) ∙ filter_step (is_section_of editor) k (range_with_len (k + 1) (n - 1))

-- the edits for the sections that are left, and for one fewer
pub edits_step : (editor k n state : ℕ) (edits : List Edit) → 0 < n
    → edits ++ set_paddings (filter (is_section_of editor) (range_with_len k n)) state
    ≡ (edits ++ set_paddings (filter (is_section_of editor) (k ∷ [])) state) ++ set_paddings (filter (is_section_of editor) (range_with_len (k + 1) (n - 1))) (state_after (length (filter (is_section_of editor) (k ∷ []))) state)
edits_step editor k n state edits some =
    let one = filter (is_section_of editor) (k ∷ []) in
    let rest = filter (is_section_of editor) (range_with_len (k + 1) (n - 1)) in
    ap (λ (es : List Edit). edits ++ es) (ap (λ (xs : List ℕ). set_paddings xs state) (rest_step editor k n some) ∙ paddings_more one rest state)
    ∙ sym (append_assoc edits (set_paddings one state) (set_paddings rest (state_after (length one) state)))

pub state_after_step : (editor k n state : ℕ) → 0 < n
    → state_after (length (filter (is_section_of editor) (range_with_len k n))) state
    ≡ state_after (length (filter (is_section_of editor) (range_with_len (k + 1) (n - 1)))) (state_after (length (filter (is_section_of editor) (k ∷ []))) state)
state_after_step editor k n state some =
    let one = filter (is_section_of editor) (k ∷ []) in
    let rest = filter (is_section_of editor) (range_with_len (k + 1) (n - 1)) in
    ap (λ (m : ℕ). state_after m state) (ap length (rest_step editor k n some) ∙ length-append one rest) ∙ states_more (length one) (length rest) state

pub few_more : (editor k state : ℕ) (edits : List Edit) → length edits ≤ k → length (edits ++ set_paddings (filter (is_section_of editor) (k ∷ [])) state) ≤ k + 1
few_more editor k state edits few = by_bool (is_section_of editor k)
    (λ e. rw e (grind (arith, common_steps, few)))
    (λ e. rw e (grind (arith, common_steps, few)))

-- four ids behind a list
pub four_more : (l l1 l2 l3 l4 : List NodeId) (a b d e : NodeId) → l1 ≡ l ++ a ∷ [] → l2 ≡ l1 ++ b ∷ [] → l3 ≡ l2 ++ d ∷ [] → l4 ≡ l3 ++ e ∷ [] → l4 ≡ l ++ a ∷ b ∷ d ∷ e ∷ []
four_more l l1 l2 l3 l4 a b d e first second third fourth =
    fourth ∙ (ap (λ (ys : List NodeId). ys ++ e ∷ []) (third ∙ ap (λ (ys : List NodeId). ys ++ d ∷ []) (second ∙ ap (λ (ys : List NodeId). ys ++ b ∷ []) first))
    ∙ (append_assoc ((l ++ a ∷ []) ++ b ∷ []) (d ∷ []) (e ∷ []) ∙ (append_assoc (l ++ a ∷ []) (b ∷ []) (d ∷ e ∷ []) ∙ append_assoc l (a ∷ []) (b ∷ d ∷ e ∷ []))))

abbrev pub run_with : Document → FaceValue → List (List Cmd) → List NodeId → Run
run_with d f s l = record { doc = d; face = f; scripts = s; listed = l }

pub same_run : (d e : Document) (f g : FaceValue) (s r : List (List Cmd)) (l m : List NodeId) → d ≡ e → f ≡ g → s ≡ r → l ≡ m → run_with d f s l ≡ run_with e g r m
same_run d e f g s r l m docs faces scripts lists =
    ap (λ (x : Document). run_with x f s l) docs ∙ (ap (λ (x : FaceValue). run_with e x s l) faces ∙ (ap (λ (x : List (List Cmd)). run_with e g x l) scripts ∙ ap (run_with e g r) lists))

pub lists_counted : (ss : List (List Cmd)) (s : List Cmd) (n : ℕ) → length ss + 1 ≡ n → length (ss ++ s ∷ []) + 1 ≡ n + 1
lists_counted ss s n is = grind (arith, common_steps, is)

pub commands_counted : (ss : List (List Cmd)) (s : List Cmd) → command_count ss ≤ 1001 * length ss → length s ≤ 1001 → command_count (ss ++ s ∷ []) ≤ 1001 * length (ss ++ s ∷ [])
commands_counted ss s few short =
    let sum : command_count (ss ++ s ∷ []) ≡ command_count ss + command_count (s ∷ []) = sum_by-append length ss (s ∷ []) in
    let one : command_count (s ∷ []) ≡ length s = omega arith in
    let len : length (ss ++ s ∷ []) ≡ length ss + 1 = length-append ss (s ∷ []) in
    rw (sum, one, len) (omega (arith, few, short))

pub reads_counted : (ss : List (List Cmd)) (s : List Cmd) → read_count ss ≤ length ss → reads_of s ≡ 1 → read_count (ss ++ s ∷ []) ≤ length (ss ++ s ∷ [])
reads_counted ss s few one =
    let sum : read_count (ss ++ s ∷ []) ≡ read_count ss + read_count (s ∷ []) = sum_by-append reads_of ss (s ∷ []) in
    let alone : read_count (s ∷ []) ≡ reads_of s = omega arith in
    let len : length (ss ++ s ∷ []) ≡ length ss + 1 = length-append ss (s ∷ []) in
    rw (sum, alone, len) (omega (arith, few, one))
