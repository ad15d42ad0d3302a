-- Where listed nodes stand in their document. A node is known by its number in the list, and `places` has the place of each.
use Rattle.std.specs.Prelude.{ℕ, ◌≡◌, ◌≢◌, ◌+◌, ◌<◌, ◌≤◌, List, length, take, slice_index, slice_index_or, option_map, IfSome}
use Rattle.lay_style.specs.Places.{place_of}
use Rattle.lay_doc.specs.declared.node.Node.{Node}
use Rattle.lay_doc.specs.Document.{Document, IsDocument, ids_of, text_size, becomes}
use Rattle.lay_run.specs.declared.gathered.listing.Listed.{Listed}
use Rattle.lay_run.specs.declared.gathered.listing.Listing.{Listing}
use Rattle.lay_run.specs.Gathered.Numbers.{number_of}
use Rattle.lay_run.specs.Gathered.Listings.{ups_of, depths_of}

-- the node that stands at a place
pub record NodeAtPlace (places : List ℕ) (k : ℕ) : Type 0 where
  pub number : ℕ
  pub within : number < length places
  pub stands : slice_index places number ≡ k

-- at each place stands one node
pub record IsOrder (places : List ℕ) : Type 0 where
  pub within : (i : ℕ) → i < length places → slice_index places i < length places
  pub apart : (i j : ℕ) → i < length places → j < length places → slice_index places i ≡ slice_index places j → i ≡ j
  pub each : (k : ℕ) → k < length places → NodeAtPlace places k

-- the listed nodes are those of the document, and each is linked to the one behind it
pub record IsListingOf (d : Document) (items : List Listed) (nexts : List ℕ) : Type 0 where
  pub document : IsDocument d
  pub places : List ℕ
  pub order : IsOrder places
  pub count : length places ≡ length d.nodes
  pub item_count : length items ≡ length d.nodes
  pub next_count : length nexts ≡ length d.nodes
  pub root : slice_index places 0 ≡ 0
  pub root_up : slice_index (ups_of items) 0 ≡ 0
  pub ups : (i : ℕ) → 0 < i → i < length d.nodes → slice_index (ups_of items) i < i
  pub nodes : (i : ℕ) (n : Node) (x : Listed) → i < length d.nodes → slice_index_or d.nodes (slice_index places i) n
      ≡ becomes (slice_index_or items i x).new (slice_index places (slice_index (ups_of items) i)) (slice_index (depths_of items) i)
  pub parents : (i : ℕ) (x : Listed) → 0 < i → i < length d.nodes
      → (slice_index_or items i x).parent.0 ≡ slice_index (ids_of d.nodes) (slice_index places (slice_index (ups_of items) i))
  pub behind : (i : ℕ) → i < length d.nodes → slice_index places i + 1 < length d.nodes
      → (slice_index nexts i < length d.nodes) × (slice_index places (slice_index nexts i) ≡ slice_index places i + 1)

-- a list of nodes keeps what is needed to put one more into its document
pub record IsGathered (d : Document) (l : Listing) : Type 0 where
  pub stands : IsListingOf d l.items.items l.nexts.items
  pub last_count : length l.lasts.items ≡ length d.nodes
  pub found : (id : ℕ) → place_of id (ids_of d.nodes) ≡ option_map (λ i. slice_index stands.places i) (number_of l.numbers id)
  pub known : (id : ℕ) → IfSome (number_of l.numbers id) (λ i. i < length d.nodes)
  pub child : (i : ℕ) → i < length d.nodes → slice_index l.lasts.items i ≢ i
      → (0 < slice_index l.lasts.items i) × (slice_index l.lasts.items i < length d.nodes)
      × (slice_index (ups_of l.items.items) (slice_index l.lasts.items i) ≡ i)
  pub last : (i k : ℕ) → 0 < k → k < length d.nodes → slice_index (ups_of l.items.items) k ≡ i
      → (slice_index l.lasts.items i ≢ i) × (slice_index stands.places k ≤ slice_index stands.places (slice_index l.lasts.items i))
  pub text : l.text_bytes ≡ text_size d.nodes

-- the nodes before the place m are put into a document, `at` is the last of them, and the others are left
pub record HasPut (d : Document) (items : List Listed) (nexts : List ℕ) (put : Document) (left : List Listed) (at m : ℕ) : Type 0 where
  pub stands : IsListingOf d items nexts
  pub count : length left ≡ length items
  pub within : at < length items
  pub last : slice_index stands.places at + 1 ≡ m
  pub before : put ≡ record d { nodes = take m d.nodes }
  pub rest : (i : ℕ) (x : Listed) → i < length items → m ≤ slice_index stands.places i → slice_index_or left i x ≡ slice_index_or items i x
