-- The accepted lists of edits of a history are some of those that its calls gave, and all where none was refused.
use Rattle.std.proofs.Common.{◌≡◌, ℕ, suc, ◌≤◌, List, [], ◌∷◌, length, slice_get, Some, refl, ap, arith}
use Rattle.lay_doc.specs.declared.edit.Edit.{Edit as Change}
use Rattle.lay_history.specs.declared.edits.command.Reply.{Reply}
use Rattle.lay_history.specs.declared.edits.command.Reply.TheVariants.{Accepted, NoMemory, Refused, Shown}
use Rattle.lay_history.specs.declared.edits.history.Entry.{Entry}
use Rattle.lay_history.specs.declared.edits.history.Entry.TheVariants.{Edit, Publish, Latest, Sync}
use Rattle.lay_history.specs.Calls.{calls}
use Rattle.lay_history.specs.Histories.{lists}
use Rattle.lay_generator.proofs.EditorOrder.{given}

-- some of these lists; all, where as many
pub record ArePart (xs ys : List (List Change)) : Type 0 where
  pub few : length xs ≤ length ys
  pub whole : length xs ≡ length ys → xs ≡ ys

taken : (x : List Change) (xs ys : List (List Change)) → ArePart xs ys → ArePart (x ∷ xs) (x ∷ ys)
taken x xs ys part = record { few = omega (arith, part.few); whole = λ same. ap (λ zs. x ∷ zs) (part.whole (omega (arith, same))) }

left : (x : List Change) (xs ys : List (List Change)) → ArePart xs ys → ArePart xs (x ∷ ys)
left x xs ys part = record { few = omega (arith, part.few); whole = λ same. absurd (omega (arith, same, part.few)) }

pub accepted_part : (h : List Entry) → ArePart (lists h) (given (calls h))
accepted_part [] = record { few = omega arith; whole = λ same. refl }
accepted_part (Edit editor index edits (Accepted v) ∷ h) = taken edits (lists h) (given (calls h)) (accepted_part h)
accepted_part (Edit editor index edits (Refused place f) ∷ h) = left edits (lists h) (given (calls h)) (accepted_part h)
accepted_part (Edit editor index edits (Shown v) ∷ h) = left edits (lists h) (given (calls h)) (accepted_part h)
accepted_part (Edit editor index edits NoMemory ∷ h) = left edits (lists h) (given (calls h)) (accepted_part h)
accepted_part (Publish v ∷ h) = accepted_part h
accepted_part (Latest editor index reply ∷ h) = accepted_part h
accepted_part (Sync editor index reply ∷ h) = accepted_part h

abbrev pub IsAccepted : Reply → Type 0
IsAccepted reply = (version : ℕ) × (reply ≡ Accepted version)

-- each list of edits was accepted
abbrev pub AreAccepted : List Entry → Type 0
AreAccepted h = (k editor index : ℕ) (edits : List Change) (reply : Reply) → slice_get h k ≡ Some (Edit editor index edits reply) → IsAccepted reply

rest_accepted : (e : Entry) (h : List Entry) → AreAccepted (e ∷ h) → AreAccepted h
rest_accepted e h all k editor index edits reply at = all (suc k) editor index edits reply at

pub all_given : (h : List Entry) → AreAccepted h → lists h ≡ given (calls h)
all_given [] all = refl
all_given (Edit editor index edits reply ∷ h) all =
    let version = all 0 editor index edits reply refl in
    rw version.1 (ap (λ xs. edits ∷ xs) (all_given h (rest_accepted (Edit editor index edits reply) h all)))
all_given (Publish v ∷ h) all = all_given h (rest_accepted (Publish v) h all)
all_given (Latest editor index reply ∷ h) all = all_given h (rest_accepted (Latest editor index reply) h all)
all_given (Sync editor index reply ∷ h) all = all_given h (rest_accepted (Sync editor index reply) h all)
