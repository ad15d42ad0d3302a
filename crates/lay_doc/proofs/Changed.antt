-- A document stays one when the declarations or the text of a node change.
use Rattle.std.specs.Prelude.{sum_by}
use Rattle.std.proofs.Common.{set, ◌≡◌, ℕ, zero, suc, ◌+◌, ◌-◌, ◌<◌, ◌≤◌, List, [], ◌∷◌, length, get_or, refl, sym, ap, ◌∙◌, arith, Bool, true, false, inl, inr, map, subst, None}
use Rattle.std.proofs.lemmas.Bool.{cases_lt, lt-ltb, le-ltb}
use Rattle.std.proofs.lemmas.List.Elements.{All-cons}
use Rattle.std.proofs.lemmas.List.Sums.{sum_by-cons}
use Rattle.std.specs.List.{All}
use Rattle.lay_units.specs.Limits.{longest_text, most_text}
use Rattle.lay_style.specs.Values.{Declaration}
use Rattle.lay_doc.specs.declared.node.Node.{Node}
use Rattle.lay_doc.specs.declared.node.Kind.{Kind}
use Rattle.lay_doc.specs.declared.node.Kind.TheVariants.{Element, Text, Replaced}
use Rattle.lay_doc.specs.declared.index.IdIndex.{IdIndex}
use Rattle.lay_doc.specs.NewNodes.{IsNodeForm, is_element, is_text}
use Rattle.lay_doc.specs.Document.{Document, IsDocument, IsNode, parents_of, ids_of, depths_of, text_lengths_of, text_size, is_element_at, is_text_at}
use Rattle.lay_doc.specs.Changes.{changed_at, with_text, text_fault_at}
use Rattle.lay_doc.specs.Index.{IsKept}
use Rattle.lay_doc.proofs.NodeColumns.{element_column, text_within}

pub changed_is : (nodes : List Node) (k : ℕ) (n : Node) (f : Node → Node) → k < length nodes → n ≡ get_or nodes k n → set nodes k (f n) ≡ changed_at k f nodes
changed_is [] k n f lt is = absurd (omega arith)
changed_is (x ∷ xs) zero n f lt is = ap (λ (m : Node). f m ∷ xs) is
changed_is (x ∷ xs) (suc k) n f lt is = ap (λ (r : List Node). x ∷ r) (changed_is xs k n f (omega arith) is)

-- a column that the change leaves as it is
pub column_stays : {X : Type 0} (g : Node → X) (f : Node → Node) → ((n : Node) → g (f n) ≡ g n) → (k : ℕ) (nodes : List Node) → map g (changed_at k f nodes) ≡ map g nodes
column_stays g f same k [] = refl
column_stays g f same zero (x ∷ xs) = rw (same x) refl
column_stays g f same (suc k) (x ∷ xs) = rw (column_stays g f same k xs) refl

sum_stays : (g : Node → ℕ) (f : Node → Node) → ((n : Node) → g (f n) ≡ g n) → (k : ℕ) (nodes : List Node) → sum_by g (changed_at k f nodes) ≡ sum_by g nodes
sum_stays g f same k [] = refl
sum_stays g f same zero (x ∷ xs) = sum_by-cons g (f x) xs ∙ ap (λ (m : ℕ). m + sum_by g xs) (same x) ∙ sym (sum_by-cons g x xs)
sum_stays g f same (suc k) (x ∷ xs) = sum_by-cons g x (changed_at k f xs) ∙ ap (λ (m : ℕ). g x + m) (sum_stays g f same k xs) ∙ sym (sum_by-cons g x xs)

pub length-changed : (f : Node → Node) (k : ℕ) (nodes : List Node) → length (changed_at k f nodes) ≡ length nodes
length-changed f k [] = refl
length-changed f zero (x ∷ xs) = refl
length-changed f (suc k) (x ∷ xs) = ap suc (length-changed f k xs)

-- a change that leaves the tree as it is
pub record KeepsTree (f : Node → Node) : Type 0 where
  pub ids : (n : Node) → (f n).id ≡ n.id
  pub parents : (n : Node) → (f n).parent ≡ n.parent
  pub depths : (n : Node) → (f n).depth ≡ n.depth
  pub kinds : (n : Node) → (f n).kind ≡ n.kind

ids_stay : (f : Node → Node) → KeepsTree f → (k : ℕ) (nodes : List Node) → ids_of (changed_at k f nodes) ≡ ids_of nodes
ids_stay f keeps k nodes = column_stays (λ n. n.id.0) f (λ n. rw (keeps.ids n) refl) k nodes

element_stays : (f : Node → Node) → KeepsTree f → (k : ℕ) (nodes : List Node) (j : ℕ) → is_element_at (changed_at k f nodes) j ≡ is_element_at nodes j
element_stays f keeps k nodes j =
    element_column (changed_at k f nodes) j
    ∙ ap (λ (es : List Bool). get_or es j false) (column_stays (λ n. is_element n.kind) f (λ n. rw (keeps.kinds n) refl) k nodes)
    ∙ sym (element_column nodes j)

-- a change of the node at k after which each node is what one of its kind may be
forms_changed : (b : Bool) (f : Node → Node) → ((n : Node) → is_text n.kind ≡ b → IsNode n → IsNode (f n)) → (k : ℕ) (nodes : List Node) → is_text_at nodes k ≡ b → All IsNode nodes → All IsNode (changed_at k f nodes)
forms_changed b f step k [] e all = all
forms_changed b f step zero (x ∷ xs) e all = All-cons IsNode (f x) xs (step x e (all 0 x (omega arith))) (λ i d lt. all (suc i) d (omega arith))
forms_changed b f step (suc k) (x ∷ xs) e all = All-cons IsNode x (changed_at k f xs) (all 0 x (omega arith)) (forms_changed b f step k xs e (λ i d lt. all (suc i) d (omega arith)))

-- a change of declarations leaves a node that is no text what it may be
declared_form : (k : Kind) (ds es : List Declaration) (text : List ℕ) → is_text k ≡ false → IsNodeForm k ds text → IsNodeForm k es text
declared_form (Element colspan rowspan) ds es text e form = form
declared_form Text ds es text e form = absurd cc
declared_form (Replaced w h) ds es text e form = form

pub keeps_form : (k : Kind) (ds : List Declaration) (text new : List ℕ) → is_text k ≡ true → IsNodeForm k ds text → IsNodeForm k ds new
keeps_form (Element colspan rowspan) ds text new e form = absurd cc
keeps_form Text ds text new e form = form
keeps_form (Replaced w h) ds text new e form = absurd cc

changed_document : (d : Document) (k : ℕ) (f : Node → Node) → IsDocument d → KeepsTree f → All IsNode (changed_at k f d.nodes)
    → ((j : ℕ) → j < length (changed_at k f d.nodes) → get_or (text_lengths_of (changed_at k f d.nodes)) j 0 ≤ longest_text)
    → text_size (changed_at k f d.nodes) ≤ most_text
    → IsDocument (record d { nodes = changed_at k f d.nodes })
changed_document d k f is keeps forms short small =
    let len = length-changed f k d.nodes in
    let parents : parents_of (changed_at k f d.nodes) ≡ parents_of d.nodes = column_stays (λ n. n.parent) f keeps.parents k d.nodes in
    let depths : depths_of (changed_at k f d.nodes) ≡ depths_of d.nodes = column_stays (λ n. n.depth) f keeps.depths k d.nodes in
    let ids = ids_stay f keeps k d.nodes in
    record {
      wide = is.wide;
      narrow = is.narrow;
      high = is.high;
      low = is.low;
      some = omega (arith, is.some);
      few = omega (arith, is.few);
      tree = rw parents is.tree;
      forms = forms;
      root_element = element_stays f keeps k d.nodes 0 ∙ is.root_element;
      parent_elements = λ j positive lt. rw parents (element_stays f keeps k d.nodes _ ∙ is.parent_elements j positive (omega arith));
      ids = λ i j less lt same. is.ids i j less (omega arith) (subst (λ (xs : List ℕ). get_or xs i 0 ≡ get_or xs j 0) ids same);
      named = λ j lt. rw ids (is.named j (omega arith));
      depth_root = rw depths is.depth_root;
      depth = λ j positive lt. rw (depths, parents) (is.depth j positive (omega arith));
      shallow = λ j lt. rw depths (is.shallow j (omega arith));
      short = short;
      small = small;
    }

-- a change of declarations alone
pub styled_document : (d : Document) (k : ℕ) (f : Node → Node) → IsDocument d → is_text_at d.nodes k ≡ false → KeepsTree f → ((n : Node) → (f n).text ≡ n.text) → IsDocument (record d { nodes = changed_at k f d.nodes })
styled_document d k f is no_text keeps texts =
    let len = length-changed f k d.nodes in
    let lengths : text_lengths_of (changed_at k f d.nodes) ≡ text_lengths_of d.nodes = column_stays (λ n. length n.text) f (λ n. rw (texts n) refl) k d.nodes in
    let size : text_size (changed_at k f d.nodes) ≡ text_size d.nodes = sum_stays (λ n. length n.text) f (λ n. rw (texts n) refl) k d.nodes in
    let forms = forms_changed false f (λ n e form. rw (keeps.kinds n, texts n) (declared_form n.kind n.decls (f n).decls n.text e form)) k d.nodes no_text is.forms in
    changed_document d k f is keeps forms (λ j lt. rw lengths (is.short j (omega arith))) (omega (arith, is.small))

pub style_kept : (d : Document) (index : IdIndex) (bytes k : ℕ) (f : Node → Node) → IsKept d index bytes → is_text_at d.nodes k ≡ false → KeepsTree f → ((n : Node) → (f n).text ≡ n.text)
    → IsKept (record d { nodes = changed_at k f d.nodes }) index bytes
style_kept d index bytes k f kept no_text keeps texts =
    let ids = ids_stay f keeps k d.nodes in
    let size : text_size (changed_at k f d.nodes) ≡ text_size d.nodes = sum_stays (λ n. length n.text) f (λ n. rw (texts n) refl) k d.nodes in
    record {
      document = styled_document d k f kept.document no_text keeps texts;
      indexed = rw ids kept.indexed;
      text = kept.text ∙ sym size;
    }

text_size_changed : (t : List ℕ) (k : ℕ) (nodes : List Node) → k < length nodes
    → text_size (changed_at k (with_text t) nodes) + get_or (text_lengths_of nodes) k 0 ≡ text_size nodes + length t
text_size_changed t k [] lt = absurd (omega arith)
text_size_changed t zero (x ∷ xs) lt =
    let a = sum_by-cons (λ (n : Node). length n.text) x xs in
    let b = sum_by-cons (λ (n : Node). length n.text) (with_text t x) xs in
    omega arith
text_size_changed t (suc k) (x ∷ xs) lt =
    let a = sum_by-cons (λ (n : Node). length n.text) x xs in
    let b = sum_by-cons (λ (n : Node). length n.text) x (changed_at k (with_text t) xs) in
    let rest = text_size_changed t k xs (omega arith) in
    omega arith

short_changed : (t : List ℕ) (k : ℕ) (nodes : List Node) → length t ≤ longest_text → ((j : ℕ) → j < length nodes → get_or (text_lengths_of nodes) j 0 ≤ longest_text)
    → (j : ℕ) → j < length (changed_at k (with_text t) nodes) → get_or (text_lengths_of (changed_at k (with_text t) nodes)) j 0 ≤ longest_text
short_changed t k [] one all j lt = absurd (omega arith)
short_changed t zero (x ∷ xs) one all zero lt = one
short_changed t zero (x ∷ xs) one all (suc j) lt = all (suc j) lt
short_changed t (suc k) (x ∷ xs) one all zero lt = all 0 (omega arith)
short_changed t (suc k) (x ∷ xs) one all (suc j) lt = short_changed t k xs one (λ i less. all (suc i) (omega arith)) j (omega arith)

-- a text that has no fault
pub record FitsAt (nodes : List Node) (k bytes : ℕ) : Type 0 where
  pub of_text : is_text_at nodes k ≡ true
  pub short : bytes ≤ longest_text
  pub small : text_size nodes - get_or (text_lengths_of nodes) k 0 + bytes ≤ most_text

pub fits_at : (nodes : List Node) (k bytes : ℕ) → text_fault_at nodes k bytes ≡ None → FitsAt nodes k bytes
fits_at nodes k bytes none = by_text (is_text_at nodes k) refl
  where
    others : ℕ
    others = text_size nodes - get_or (text_lengths_of nodes) k 0

    by_text : (b : Bool) → is_text_at nodes k ≡ b → FitsAt nodes k bytes
    by_text false e = let h = rw e at none in absurd cc
    by_text true e = elim (cases_lt longest_text bytes) [
      | inl long ↦ (let t = lt-ltb longest_text bytes long in let h = rw (e, t) at none in absurd cc)
      | inr short ↦ (let t = le-ltb longest_text bytes short in elim (cases_lt most_text (others + bytes)) [
        | inl many ↦ (let u = lt-ltb most_text (others + bytes) many in let h = rw (e, t, u) at none in absurd cc)
        | inr few ↦ record { of_text = e; short = short; small = few }
      ])
    ]

pub texted_document : (d : Document) (k : ℕ) (t : List ℕ) → IsDocument d → k < length d.nodes → FitsAt d.nodes k (length t) → IsDocument (record d { nodes = changed_at k (with_text t) d.nodes })
texted_document d k t is lt fits =
    let keeps : KeepsTree (with_text t) = record { ids = λ n. refl; parents = λ n. refl; depths = λ n. refl; kinds = λ n. refl } in
    let within = text_within d.nodes k lt in
    let size = text_size_changed t k d.nodes lt in
    let forms = forms_changed true (with_text t) (λ n e form. keeps_form n.kind n.decls n.text t e form) k d.nodes fits.of_text is.forms in
    changed_document d k (with_text t) is keeps forms (short_changed t k d.nodes fits.short is.short) (omega (arith, fits.small))

pub text_kept : (d : Document) (index : IdIndex) (bytes k : ℕ) (t : List ℕ) → IsKept d index bytes → k < length d.nodes → FitsAt d.nodes k (length t)
    → IsKept (record d { nodes = changed_at k (with_text t) d.nodes }) index (bytes - get_or (text_lengths_of d.nodes) k 0 + length t)
text_kept d index bytes k t kept lt fits =
    let keeps : KeepsTree (with_text t) = record { ids = λ n. refl; parents = λ n. refl; depths = λ n. refl; kinds = λ n. refl } in
    let within = text_within d.nodes k lt in
    let size = text_size_changed t k d.nodes lt in
    record {
      document = texted_document d k t kept.document lt fits;
      indexed = rw (ids_stay (with_text t) keeps k d.nodes) kept.indexed;
      text = omega (arith, kept.text);
    }
