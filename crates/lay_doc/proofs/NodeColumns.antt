-- The columns of a list of nodes.
use Rattle.std.proofs.Common.{◌≡◌, ℕ, zero, suc, ◌<◌, ◌≤◌, List, [], ◌∷◌, length, get_or, refl, arith, Bool, false, map}
use Rattle.std.proofs.lemmas.List.Sums.{sum_by-cons}
use Rattle.std.proofs.lemmas.List.{length-map}
use Rattle.lay_doc.specs.declared.node.Node.{Node}
use Rattle.lay_doc.specs.NewNodes.{is_element, is_text}
use Rattle.lay_doc.specs.Document.{parents_of, ids_of, depths_of, text_lengths_of, text_size, is_element_at, is_text_at}

pub length-parents : (nodes : List Node) → length (parents_of nodes) ≡ length nodes
length-parents nodes = length-map nodes (λ n. n.parent)

pub length-ids : (nodes : List Node) → length (ids_of nodes) ≡ length nodes
length-ids nodes = length-map nodes (λ n. n.id.0)

pub length-depths : (nodes : List Node) → length (depths_of nodes) ≡ length nodes
length-depths nodes = length-map nodes (λ n. n.depth)

pub length-texts : (nodes : List Node) → length (text_lengths_of nodes) ≡ length nodes
length-texts nodes = length-map nodes (λ n. length n.text)

-- which nodes are elements, as a column
abbrev pub elements_of : List Node → List Bool
elements_of nodes = map (λ n. is_element n.kind) nodes

pub length-elements : (nodes : List Node) → length (elements_of nodes) ≡ length nodes
length-elements nodes = length-map nodes (λ n. is_element n.kind)

pub element_column : (nodes : List Node) (k : ℕ) → is_element_at nodes k ≡ get_or (elements_of nodes) k false
element_column [] k = refl
element_column (n ∷ ns) zero = refl
element_column (n ∷ ns) (suc k) = element_column ns k

pub element_read : (nodes : List Node) (k : ℕ) (n : Node) → k < length nodes → is_element (get_or nodes k n).kind ≡ is_element_at nodes k
element_read [] k n lt = absurd (omega arith)
element_read (x ∷ xs) zero n lt = refl
element_read (x ∷ xs) (suc k) n lt = element_read xs k n (omega arith)

pub text_read : (nodes : List Node) (k : ℕ) (n : Node) → k < length nodes → is_text (get_or nodes k n).kind ≡ is_text_at nodes k
text_read [] k n lt = absurd (omega arith)
text_read (x ∷ xs) zero n lt = refl
text_read (x ∷ xs) (suc k) n lt = text_read xs k n (omega arith)

-- a node's text is one of all
pub text_within : (nodes : List Node) (k : ℕ) → k < length nodes → get_or (text_lengths_of nodes) k 0 ≤ text_size nodes
text_within [] k lt = absurd (omega arith)
text_within (x ∷ xs) zero lt = (let e = sum_by-cons (λ (n : Node). length n.text) x xs in omega arith)
text_within (x ∷ xs) (suc k) lt = (let e = sum_by-cons (λ (n : Node). length n.text) x xs in let h = text_within xs k (omega arith) in omega arith)
