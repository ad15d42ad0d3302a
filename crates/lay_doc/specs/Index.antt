-- The index of a document: from the id of a node to the number of its insertion, which never changes, and
-- for each such number the present place of its node. The first ids are in order, and a map has the others.
use Rattle.std.specs.Prelude.{ℕ, ◌≡◌, ◌<◌, ◌-◌, ◌&&◌, Bool, List, length, nat_lt, nat_le}
use Rattle.std.specs.Prelude.{slice_index, Option, Some, option_map, IfSome, if◌then◌else◌}
use Rattle.std.specs.BTreeMap.{get}
use Rattle.std.specs.Ordering.{nat_cmp}
use Rattle.lay_style.specs.Places.{place_of}
use Rattle.lay_doc.specs.declared.index.IdIndex.{IdIndex}
use Rattle.lay_doc.specs.Document.{Document, IsDocument, ids_of, text_size}

-- an id is one of 1, 2, 3 and so on up to the last
abbrev pub is_up_to : (id last : ℕ) → Bool
is_up_to id last = nat_lt 0 id && nat_le id last

-- the number of the insertion of this id
abbrev pub number_in : IdIndex → ℕ → Option ℕ
number_in index id = if is_up_to id index.in_order then Some (id - 1) else get nat_cmp index.numbers id

-- the place at which this id stands, as the index has it
abbrev pub place_in : IdIndex → ℕ → Option ℕ
place_in index id = option_map (λ n. slice_index index.places.items n) (number_in index id)

-- each number that an id has is one of those that have a place
abbrev pub NumbersHavePlaces : IdIndex → Type 0
NumbersHavePlaces index = (id : ℕ) → IfSome (number_in index id) (λ n. n < length index.places.items)

-- the index finds just the places of these ids
pub record IsIndexOf (index : IdIndex) (ids : List ℕ) : Type 0 where
  pub places : NumbersHavePlaces index
  pub found : (id : ℕ) → place_in index id ≡ place_of id ids
  pub count : length index.places.items ≡ length ids
  pub within : (n : ℕ) → n < length index.places.items → slice_index index.places.items n < length ids

-- what stands beside a document's nodes is theirs
pub record IsKept (d : Document) (index : IdIndex) (text_bytes : ℕ) : Type 0 where
  pub document : IsDocument d
  pub indexed : IsIndexOf index (ids_of d.nodes)
  pub text : text_bytes ≡ text_size d.nodes
