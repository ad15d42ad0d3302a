-- No node of a generated run has a fault where it is put: each section is put into a document of the sections before it, whose ids are lower.
use Rattle.std.proofs.Common.{◌≡◌, ℕ, zero, suc, ◌+◌, ◌*◌, ◌%◌, ◌<◌, ◌≤◌, List, [], ◌∷◌, ◌++◌, length, refl, ap, ◌∙◌, subst, arith, codes, inl, inr, Some, None, Result, Err, ◌↔◌}
use Rattle.std.specs.List.{repeat}
use Rattle.std.proofs.lemmas.Bool.{cases_lt}
use Rattle.std.proofs.lemmas.Nat.{mod_below}
use Rattle.std.proofs.lemmas.List.{length-append}
use Rattle.std.proofs.lemmas.List.Elements.{All-weaker}
use Rattle.lay_doc.specs.declared.node.NodeId.{NodeId}
use Rattle.lay_doc.specs.NewNodes.{NewNodeValue}
use Rattle.lay_doc.specs.Document.{Document, root_document}
use Rattle.lay_doc.specs.Edits.{insert_fault, last_index, root_fault}
use Rattle.lay_doc.specs.declared.doc.NewFault.{NewFault}
use Rattle.lay_doc.specs.declared.doc.NewFault.TheVariants.{Bad}
use Rattle.lay_doc.specs.declared.edit.EditFault.{EditFault}
use Rattle.lay_generator.specs.Draws.{draw, next, state_after}
use Rattle.lay_generator.specs.Nodes.{block, container, float_node, id, more_count, more_words, root, section_end, section_nodes, sections, text, word}
use Rattle.lay_generator.specs.Generated.{generated, with_node, with_nodes}
use Rattle.lay_generator.specs.Laws.{AreFaultless, GeneratedNodesFit}
use Rattle.lay_generator.proofs.Placed.{Fits, IsParent, fits_more, no_fault, parent_more, parent_stays, put}
use Rattle.lay_generator.proofs.Steps.{nodes_more}

letters : (n : ℕ) → length (repeat n (codes "w")) ≡ n
letters zero = refl
letters (suc n) = ap suc (letters n)

short_word : (state : ℕ) → length (word state) ≤ 8
short_word state = omega (arith, letters (1 + draw 1 state % 8), mod_below (draw 1 state) 8 (omega arith))

short_words : (n state : ℕ) → length (more_words n state) ≤ 9 * n
short_words zero state = omega arith
short_words (suc n) state =
    let joined = length-append (codes " " ++ word state) (more_words n (next state)) in
    omega (arith, joined, short_word state, short_words n (next state))

short_text : (section state : ℕ) → length (text section state).text ≤ 269
short_text section state =
    let n = more_count state in
    let few : n < 30 = mod_below (draw 1 state) 30 (omega arith) in
    let joined = length-append (word (next state)) (more_words n (next (next state))) in
    omega (arith, few, joined, short_word (next state), short_words n (next (next state)))

-- the same numbers, or greater ones
fits_as : (d : Document) (m b t m' b' t' : ℕ) → Fits d m b t → m ≡ m' → b ≤ b' → t ≤ t' → Fits d m' b' t'
fits_as d m b t m' b' t' fits same above more = record {
  count = fits.count ∙ same;
  low = All-weaker (λ n. n.id.0 ≤ b) (λ n. n.id.0 ≤ b') (λ n low. omega (arith, low, above)) d.nodes fits.low;
  texts = omega (arith, fits.texts, more);
}

-- a document of the root and so many sections, each with its block
pub record IsSections (s : ℕ) (d : Document) : Type 0 where
  pub fits : Fits d (1 + 4 * s) (1 + 4 * s) (270 * s)
  pub root : IsParent d.nodes 1 1
  pub blocks : (j : ℕ) → j < s → IsParent d.nodes (4 + 4 * j) 3

record IsNext (s : ℕ) (d : Document) (nodes : List (NodeId × NewNodeValue)) : Type 0 where
  none : AreFaultless d nodes
  sections : IsSections (s + 1) (with_nodes d nodes)

section_fits : (s state : ℕ) (d : Document) → s < 1000 → IsSections s d → IsNext s d (section_nodes s state)
section_fits s state d few is =
    let m = 1 + 4 * s in
    let t = 270 * s in
    let p = 2 + 4 * s in
    let o = 3 + 4 * s in
    let q = 4 + 4 * s in
    let last = 5 + 4 * s in
    let a = container s state in
    let b = float_node s (state_after 1 state) in
    let c = block s in
    let e = text s (state_after 4 state) in
    let none-a = no_fault d m m t 1 1 a is.fits is.root (omega arith) (omega arith) (omega arith) (omega arith) (omega arith) in
    let put-a = put d 1 1 a is.root in
    let d1 : Document = with_node d (id 1, a) in
    let fits-a : Fits d1 p p t = fits_as d1 (m + 1) p (t + 0) p p t (fits_more d m m t 1 1 a is.fits put-a (omega arith)) (omega arith) (omega arith) (omega arith) in
    let root-a : IsParent d1.nodes 1 1 = parent_stays d 1 1 1 1 a is.root put-a (λ same. omega arith) in
    let own-a : IsParent d1.nodes p 2 = parent_more d m m t 1 1 a is.fits put-a (omega arith) refl in
    let none-b = no_fault d1 p p t p 2 b fits-a own-a (omega arith) (omega arith) (omega arith) (omega arith) (omega arith) in
    let put-b = put d1 p 2 b own-a in
    let d2 : Document = with_node d1 (id p, b) in
    let fits-b : Fits d2 o o t = fits_as d2 (p + 1) o (t + 0) o o t (fits_more d1 p p t p 2 b fits-a put-b (omega arith)) (omega arith) (omega arith) (omega arith) in
    let root-b : IsParent d2.nodes 1 1 = parent_stays d1 p 2 1 1 b root-a put-b (λ same. omega arith) in
    let own-b : IsParent d2.nodes p 2 = parent_stays d1 p 2 p 2 b own-a put-b (λ same. omega arith) in
    let none-c = no_fault d2 o o t p 2 c fits-b own-b (omega arith) (omega arith) (omega arith) (omega arith) (omega arith) in
    let put-c = put d2 p 2 c own-b in
    let d3 : Document = with_node d2 (id p, c) in
    let fits-c : Fits d3 q q t = fits_as d3 (o + 1) q (t + 0) q q t (fits_more d2 o o t p 2 c fits-b put-c (omega arith)) (omega arith) (omega arith) (omega arith) in
    let root-c : IsParent d3.nodes 1 1 = parent_stays d2 p 2 1 1 c root-b put-c (λ same. omega arith) in
    let block-c : (j : ℕ) → j < s → IsParent d3.nodes (4 + 4 * j) 3 = λ j before.
    parent_stays d2 p 2 (4 + 4 * j) 3 c
    (parent_stays d1 p 2 (4 + 4 * j) 3 b
    (parent_stays d 1 1 (4 + 4 * j) 3 a (is.blocks j before) put-a (λ same. omega (arith, before, same)))
    put-b (λ same. omega (arith, before, same))) put-c (λ same. omega (arith, before, same)) in
    let own-c : IsParent d3.nodes q 3 = parent_more d2 o o t p 2 c fits-b put-c (omega arith) refl in
    let short = short_text s (state_after 4 state) in
    let none-e = no_fault d3 q q t q 3 e fits-c own-c (omega arith) (omega arith) (omega arith) (omega (arith, short)) (omega (arith, short)) in
    let put-e = put d3 q 3 e own-c in
    let d4 : Document = with_node d3 (id q, e) in
    let fits-e = fits_more d3 q q t q 3 e fits-c put-e (omega arith) in
    record {
      none = (none-a, (none-b, (none-c, (none-e, tt))));
      sections = record {
        fits = fits_as d4 (q + 1) last (t + length e.text) (1 + 4 * (s + 1)) (1 + 4 * (s + 1)) (270 * (s + 1)) fits-e (omega arith) (omega arith) (omega (arith, short));
        root = parent_stays d3 q 3 1 1 e root-c put-e (λ same. omega arith);
        blocks = λ j within. parent_stays d3 q 3 (4 + 4 * j) 3 e (elim (cases_lt j s) [
          | inl before ↦ block-c j before
          | inr last-one ↦ (let same : q ≡ 4 + 4 * j = omega (arith, within, last-one) in subst (λ n. IsParent d3.nodes n 3) same own-c)
        ]) put-e (λ same. omega (arith, within, same));
      };
    }

faultless_more : (d : Document) (xs ys : List (NodeId × NewNodeValue)) → AreFaultless d xs → AreFaultless (with_nodes d xs) ys → AreFaultless d (xs ++ ys)
faultless_more d [] ys first rest = rest
faultless_more d (x ∷ xs) ys first rest = (first.0, faultless_more (with_node d x) xs ys first.1 rest)

-- two lists of nodes, one behind the other
pub record AreBoth (d : Document) (xs ys : List (NodeId × NewNodeValue)) : Type 0 where
  pub first : AreFaultless d xs
  pub rest : AreFaultless (with_nodes d xs) ys

pub faultless_parts : (d : Document) (xs ys : List (NodeId × NewNodeValue)) → AreFaultless d (xs ++ ys) → AreBoth d xs ys
faultless_parts d [] ys all = record { first = tt; rest = all }
faultless_parts d (x ∷ xs) ys all =
    let parts = faultless_parts (with_node d x) xs ys all.1 in
    record { first = (all.0, parts.first); rest = parts.rest }

-- the root has no fault
pub no_bad_root : (r : Result Document NewFault) (n : NewNodeValue) (f : EditFault) → n ≡ root → ((g : EditFault) → (r ≡ Err (Bad g)) ↔ (root_fault n ≡ Some g))
    → r ≡ Err (Bad f) → ⊥
no_bad_root r n f same bad is = let some : None ≡ Some f = subst (λ m. root_fault m ≡ Some f) same ((bad f).0 is) in absurd cc

-- a node is put where one that is equal has no fault, in an equal document
pub fits_as_well : (d e : Document) (parent : ℕ) (new other : NewNodeValue) → d ≡ e → new ≡ other → insert_fault e parent (last_index e parent) other ≡ None
    → insert_fault d parent (last_index d parent) new ≡ None
fits_as_well d e parent new other documents nodes none = rw (documents, nodes) none

-- and the document with it is that with the other
put_as : (after d e : Document) (parent : ℕ) (new other : NewNodeValue) → after ≡ with_node d (id parent, new) → d ≡ e → new ≡ other → after ≡ with_node e (id parent, other)
put_as after d e parent new other is documents nodes = is ∙ (ap (λ x. with_node x (id parent, new)) documents ∙ ap (λ n. with_node e (id parent, n)) nodes)

-- a document with the first nodes of a section, and the next node in it
one_put : (s state : ℕ) (d d1 : Document) (a : NewNodeValue) → a ≡ container s state → d1 ≡ with_node d (id 1, a) → d1 ≡ with_node d (id 1, container s state)
one_put s state d d1 a is-a put = put_as d1 d d 1 a (container s state) put refl is-a

pub second_fits : (s state : ℕ) (d d1 : Document) (a b : NewNodeValue) → AreFaultless d (section_nodes s state) → a ≡ container s state → b ≡ float_node s (state_after 1 state)
    → d1 ≡ with_node d (id 1, a) → insert_fault d1 (2 + 4 * s) (last_index d1 (2 + 4 * s)) b ≡ None
second_fits s state d d1 a b fit is-a is-b put =
    fits_as_well d1 (with_node d (id 1, container s state)) (2 + 4 * s) b (float_node s (state_after 1 state)) (one_put s state d d1 a is-a put) is-b fit.1.0

two_put : (s state : ℕ) (d d1 d2 : Document) (a b : NewNodeValue) → a ≡ container s state → b ≡ float_node s (state_after 1 state)
    → d1 ≡ with_node d (id 1, a) → d2 ≡ with_node d1 (id (2 + 4 * s), b)
    → d2 ≡ with_node (with_node d (id 1, container s state)) (id (2 + 4 * s), float_node s (state_after 1 state))
two_put s state d d1 d2 a b is-a is-b put-1 put-2 =
    put_as d2 d1 (with_node d (id 1, container s state)) (2 + 4 * s) b (float_node s (state_after 1 state)) put-2 (one_put s state d d1 a is-a put-1) is-b

pub third_fits : (s state : ℕ) (d d1 d2 : Document) (a b n : NewNodeValue) → AreFaultless d (section_nodes s state) → a ≡ container s state → b ≡ float_node s (state_after 1 state) → n ≡ block s
    → d1 ≡ with_node d (id 1, a) → d2 ≡ with_node d1 (id (2 + 4 * s), b) → insert_fault d2 (2 + 4 * s) (last_index d2 (2 + 4 * s)) n ≡ None
third_fits s state d d1 d2 a b n fit is-a is-b is-n put-1 put-2 =
    fits_as_well d2 (with_node (with_node d (id 1, container s state)) (id (2 + 4 * s), float_node s (state_after 1 state))) (2 + 4 * s) n (block s)
    (two_put s state d d1 d2 a b is-a is-b put-1 put-2) is-n fit.1.1.0

three_put : (s state : ℕ) (d d1 d2 d3 : Document) (a b n : NewNodeValue) → a ≡ container s state → b ≡ float_node s (state_after 1 state) → n ≡ block s
    → d1 ≡ with_node d (id 1, a) → d2 ≡ with_node d1 (id (2 + 4 * s), b) → d3 ≡ with_node d2 (id (2 + 4 * s), n)
    → d3 ≡ with_node (with_node (with_node d (id 1, container s state)) (id (2 + 4 * s), float_node s (state_after 1 state))) (id (2 + 4 * s), block s)
three_put s state d d1 d2 d3 a b n is-a is-b is-n put-1 put-2 put-3 =
    put_as d3 d2 (with_node (with_node d (id 1, container s state)) (id (2 + 4 * s), float_node s (state_after 1 state))) (2 + 4 * s) n (block s)
    put-3 (two_put s state d d1 d2 a b is-a is-b put-1 put-2) is-n

pub fourth_fits : (s state : ℕ) (d d1 d2 d3 : Document) (a b n e : NewNodeValue) → AreFaultless d (section_nodes s state)
    → a ≡ container s state → b ≡ float_node s (state_after 1 state) → n ≡ block s → e ≡ text s (state_after 4 state)
    → d1 ≡ with_node d (id 1, a) → d2 ≡ with_node d1 (id (2 + 4 * s), b) → d3 ≡ with_node d2 (id (2 + 4 * s), n) → insert_fault d3 (4 + 4 * s) (last_index d3 (4 + 4 * s)) e ≡ None
fourth_fits s state d d1 d2 d3 a b n e fit is-a is-b is-n is-e put-1 put-2 put-3 =
    fits_as_well d3 (with_node (with_node (with_node d (id 1, container s state)) (id (2 + 4 * s), float_node s (state_after 1 state))) (id (2 + 4 * s), block s)) (4 + 4 * s)
    e (text s (state_after 4 state)) (three_put s state d d1 d2 d3 a b n is-a is-b is-n put-1 put-2 put-3) is-e fit.1.1.1.0

-- the document with all of them
pub section_put : (s state : ℕ) (d d1 d2 d3 d4 : Document) (a b n e : NewNodeValue) → a ≡ container s state → b ≡ float_node s (state_after 1 state) → n ≡ block s → e ≡ text s (state_after 4 state)
    → d1 ≡ with_node d (id 1, a) → d2 ≡ with_node d1 (id (2 + 4 * s), b) → d3 ≡ with_node d2 (id (2 + 4 * s), n) → d4 ≡ with_node d3 (id (4 + 4 * s), e)
    → d4 ≡ with_nodes d (section_nodes s state)
section_put s state d d1 d2 d3 d4 a b n e is-a is-b is-n is-e put-1 put-2 put-3 put-4 =
    put_as d4 d3 (with_node (with_node (with_node d (id 1, container s state)) (id (2 + 4 * s), float_node s (state_after 1 state))) (id (2 + 4 * s), block s)) (4 + 4 * s)
    e (text s (state_after 4 state)) put-4 (three_put s state d d1 d2 d3 a b n is-a is-b is-n put-1 put-2 put-3) is-e

all_fit : (n s state : ℕ) (d : Document) → s + n ≤ 1000 → IsSections s d → AreFaultless d (sections n s state)
all_fit zero s state d few is = tt
all_fit (suc n) s state d few is =
    let one = section_fits s state d (omega (arith, few)) is in
    faultless_more d (section_nodes s state) (sections n (s + 1) (section_end state)) one.none
    (all_fit n (s + 1) (section_end state) (with_nodes d (section_nodes s state)) (omega (arith, few)) one.sections)

sections_put : (n s state : ℕ) (d : Document) → s + n ≤ 1000 → IsSections s d → IsSections (s + n) (with_nodes d (sections n s state))
sections_put zero s state d few is = let same : s ≡ s + 0 = omega arith in subst (λ k. IsSections k d) same is
sections_put (suc n) s state d few is =
    let nodes = section_nodes s state in
    let same : s + 1 + n ≡ s + suc n = omega arith in
    subst (λ k. IsSections k (with_nodes d (nodes ++ sections n (s + 1) (section_end state)))) same
    (rw (nodes_more d nodes (sections n (s + 1) (section_end state)))
    (sections_put n (s + 1) (section_end state) (with_nodes d nodes) (omega (arith, few)) (section_fits s state d (omega (arith, few)) is).sections))

root_alone : IsSections 0 (root_document 800 600 root)
root_alone = record {
  fits = record { count = refl; low = λ k d lt. (let z : k ≡ 0 = omega (arith, lt) in rw z (omega arith)); texts = omega arith };
  root = record { place = 0; within = omega arith; named = refl; each = λ k d lt. (let z : k ≡ 0 = omega (arith, lt) in rw z (λ same. (refl, omega arith))) };
  blocks = λ j before. absurd (omega (arith, before));
}

pub generated_sections : (size seed : ℕ) → size ≤ 1000 → IsSections size (generated size seed).doc
generated_sections size seed few =
    let same : 0 + size ≡ size = omega arith in
    subst (λ k. IsSections k (generated size seed).doc) same (sections_put size 0 seed (root_document 800 600 root) (omega (arith, few)) root_alone)

pub generated_nodes_fit : GeneratedNodesFit
generated_nodes_fit size seed few = (refl, all_fit size 0 seed (root_document 800 600 root) (omega (arith, few)) root_alone)
