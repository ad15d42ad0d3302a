-- Contexts of a document (CSS 2.2, 9.4.1) that have other boxes later: the same contexts stand in each other, and each has as many boxes,
-- which stand in each other as before, with the same roots among them. So each root has the number that it had.
use Rattle.std.specs.Prelude.{ℕ, ◌≡◌, ◌<◌, Bool, false, List, length, slice_index_or}
use Rattle.lay_box_tree.specs.Containers.{box_parent}
use Rattle.lay_box_tree.specs.declared.box_tree.BoxNode.{BoxNode}
use Rattle.lay_contexts.specs.Contexts.{Context, boxes_in, context_at}
use Rattle.lay_contexts.specs.FormattingContexts.{FormattingContext}
use Rattle.lay_contexts.specs.FormattingContextList.{AreFormattingContextsOf}
use Rattle.lay_contexts.specs.Homes.{is_root}
use Rattle.lay_contexts.specs.Listed.{AreListedTo}

-- the boxes xs became ys
pub record HaveForm (xs ys : List BoxNode) : Type 0 where
  pub count : length ys ≡ length xs
  pub parents : (k : ℕ) → box_parent ys k ≡ box_parent xs k
  pub roots : (k : ℕ) → is_root ys k ≡ is_root xs k

-- a context became another one
pub record HasPlace (c e : Context) : Type 0 where
  pub outer : e.outer ≡ c.outer
  pub outer_box : e.outer_box ≡ c.outer_box
  pub inner : e.inner ≡ c.inner
  pub form : HaveForm c.boxes e.boxes

-- contexts became later ones
pub record KeepLinks (contexts later : List Context) : Type 0 where
  pub count : length later ≡ length contexts
  pub links : (i : ℕ) → i < length contexts → HasPlace (context_at contexts i) (context_at later i)

-- those without a flag keep their boxes
pub record KeepUnflagged (contexts later : List Context) (made : List Bool) : Type 0 where
  pub flags : length made ≡ length contexts
  pub kept : (i : ℕ) → i < length contexts → slice_index_or made i false ≡ false → boxes_in later i ≡ boxes_in contexts i

-- The formatting contexts of later contexts while they are listed, where all are those before: those of all contexts before i, and of the
-- roots before n in the context i.
pub record FollowTo (contexts later : List Context) (all items : List FormattingContext) (i n : ℕ) : Type 0 where
  pub of : AreFormattingContextsOf contexts all
  pub listed : AreListedTo later of.homes items i n
