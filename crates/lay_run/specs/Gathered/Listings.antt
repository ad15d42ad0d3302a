-- Columns of a list of nodes, and the first fault of a node that is to be put below one of them, as its last child, in the terms
-- of the list: by numbers and not by places.
use Rattle.std.specs.Prelude.{ℕ, zero, suc, ◌==◌, ◌||◌, not, Bool, false, List, [], ◌∷◌, map, length}
use Rattle.std.specs.Prelude.{slice_index, Option, Some, None, nat_le, is_some, if◌then◌else◌}
use Rattle.lay_units.specs.Limits.{most_depth, most_nodes}
use Rattle.lay_doc.specs.declared.edit.EditFault.{EditFault}
use Rattle.lay_doc.specs.declared.edit.EditFault.TheVariants.{NotElement, IdTaken, TooManyNodes, TooDeep, TextTooLong}
use Rattle.lay_doc.specs.NewNodes.{NewNodeValue, is_element}
use Rattle.lay_doc.specs.Document.{is_too_long}
use Rattle.lay_run.specs.declared.gathered.listing.Listed.{Listed}
use Rattle.lay_run.specs.declared.gathered.listing.Listing.{Listing}
use Rattle.lay_run.specs.Gathered.Numbers.{number_of}

-- the number of each node's parent
abbrev pub ups_of : List Listed → List ℕ
ups_of items = map (λ x. x.up) items

abbrev pub depths_of : List Listed → List ℕ
depths_of items = map (λ x. x.depth) items

abbrev pub is_listed_element : List Listed → ℕ → Bool
is_listed_element [] k = false
is_listed_element (x ∷ xs) zero = is_element x.new.kind
is_listed_element (x ∷ xs) (suc k) = is_listed_element xs k

abbrev pub insertion_limit_fault : Listing → ℕ → ℕ → Option EditFault
insertion_limit_fault l up bytes =
    if nat_le most_nodes (length l.items.items) then Some TooManyNodes
    else (if nat_le most_depth (slice_index (depths_of l.items.items) up) then Some TooDeep
    else (if is_too_long l.text_bytes bytes then Some TextTooLong
    else None))

abbrev pub insertion_fault : Listing → ℕ → NewNodeValue → Option EditFault
insertion_fault l up new =
    if not (is_listed_element l.items.items up) then Some NotElement
    else (if (new.id.0 == 0) || is_some (number_of l.numbers new.id.0) then Some IdTaken
    else insertion_limit_fault l up (length new.text))
