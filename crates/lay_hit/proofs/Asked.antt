-- The nodes of a question's document: each parent stands before its children.
use Rattle.std.proofs.Common.{ℕ, zero, suc, ◌<◌, length, slice_index, arith, inl, inr}
use Rattle.std.proofs.lemmas.Bool.{cases_lt}
use Rattle.std.proofs.lemmas.List.{get_or_past}
use Rattle.lay_doc.specs.Document.{Document, IsDocument, parents_of}
use Rattle.lay_hit.specs.declared.question.Question.{Question}

pub parent_before_in : (d : Document) → IsDocument d → (k : ℕ) → 0 < k → slice_index (parents_of d.nodes) k < k
parent_before_in d is k some = elim (cases_lt k (length (parents_of d.nodes))) [
  | inl low ↦ is.tree.before k some low
  | inr high ↦ (let e = get_or_past (parents_of d.nodes) k 0 high in omega (arith, e))
]

pub parent_before : (q : Question) → IsDocument q.doc.now → (k : ℕ) → 0 < k → slice_index (parents_of q.doc.now.nodes) k < k
parent_before q is k some = parent_before_in q.doc.now is k some

pub parent_within : (q : Question) → IsDocument q.doc.now → (k : ℕ) → k < length q.doc.now.nodes → slice_index (parents_of q.doc.now.nodes) k < length q.doc.now.nodes
parent_within q is zero within = let r = is.tree.root in let some = is.some in omega (arith, r, some)
parent_within q is (suc k) within = let less = parent_before q is (suc k) (omega arith) in omega (arith, less)
