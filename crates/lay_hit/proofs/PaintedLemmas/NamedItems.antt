-- Each item in the lines of a block container is of a box of its formatting context, and each text of a text: so it is of the items of
-- a container, of what white space processing leaves of them, and of the segments that they are cut into.
use Rattle.std.proofs.Common.{◌≡◌, ℕ, zero, suc, ◌+◌, ◌<◌, ◌==◌, ◌&&◌, Bool, true, false, not, List, [], ◌∷◌, ◌++◌, length, drop, slice_index_or, refl, sym, ap, subst, ◌∙◌, arith}
use Rattle.lay_units.specs.declared.records.ClusterWidth.{ClusterWidth}
use Rattle.lay_box_tree.specs.declared.box_role.Role.{Role}
use Rattle.lay_box_tree.specs.declared.box_role.Role.TheVariants as role
use Rattle.lay_box_tree.specs.declared.box_tree.BoxNode.{BoxNode}
use Rattle.lay_box_tree.specs.BoxColumns.{box_at, no_box}
use Rattle.lay_box_tree.specs.Roles.{role_of}
use Rattle.lay_hit.proofs.Cited.{breaks_keep_content_lem, drop-next}
use Rattle.lay_face.specs.FaceValue.{FaceValue}
use Rattle.lay_space.specs.declared.item.Mode.{Mode}
use Rattle.lay_space.specs.declared.item.Item.{Item}
use Rattle.lay_space.specs.declared.item.Item.TheVariants as item
use Rattle.lay_space.specs.declared.tokens.Cluster.{Cluster}
use Rattle.lay_space.specs.declared.tokens.Token.{Token}
use Rattle.lay_space.specs.declared.tokens.Token.TheVariants as token
use Rattle.lay_space.specs.declared.breaks.Entry.{Entry}
use Rattle.lay_space.specs.declared.breaks.Entry.TheVariants as entry
use Rattle.lay_space.specs.declared.segment.Segment.{Segment}
use Rattle.lay_space.specs.Breaks.{entries_of}
use Rattle.lay_space.specs.Laws.{content_of, is_token_out_of_flow}
use Rattle.lay_space.specs.Segments.{cut, last_segment, text_of}
use Rattle.lay_space.specs.Tokens.{begins_line, cluster_tokens, is_collapsible, tokens_of, tokens_of_item, without_leading_spaces}
use Rattle.lay_space.specs.WhiteSpace.{processed, space_after}
use Rattle.lay_line_items.specs.InlineItems.{items_as, items_at, items_below, items_of}
use Rattle.lay_line_items.specs.InlineSegments.{items_in, measured, measured_item, segments_in}
use Rattle.lay_hit.proofs.PaintedLemmas.Each.{Each, each-append, each-filter, each-if, each-map, each-unfilter, each-weaker}

-- the box that stands first in what is left of a list
record IsFirst {X : Type 0} (k : ℕ) (xs : List X) (x d : X) : Type 0 where
  pub within : k < length xs
  pub is : slice_index_or xs k d ≡ x

abbrev head-or : {X : Type 0} → X → List X → X
head-or d [] = d
head-or d (x ∷ xs) = x

first-left : {X : Type 0} (k : ℕ) (xs : List X) (x d : X) (ys : List X) → drop k xs ≡ x ∷ ys → IsFirst k xs x d
first-left zero [] x d ys h = absurd cc
first-left (suc k) [] x d ys h = absurd cc
first-left zero (z ∷ zs) x d ys h = record { within = omega arith; is = ap (head-or d) h }
first-left (suc k) (z ∷ zs) x d ys h = let f = first-left k zs x d ys h in record { within = (let w = f.within in omega (arith, w)); is = f.is }

-- The items and the tokens that name boxes which are there, and texts that are texts.
module _ (IsBox IsText : ℕ → Type 0) where
  abbrev pub IsItem : Item → Type 0
  IsItem (item.Text k text mode widths) = IsText k
  IsItem (item.Atomic k mode) = Unit {0}
  IsItem (item.Start k takes) = IsBox k
  IsItem (item.End k) = Unit {0}
  IsItem (item.Float k) = Unit {0}
  IsItem (item.Anchor k) = Unit {0}

  abbrev IsToken : Token → Type 0
  IsToken (token.Cluster c) = IsText c.node
  IsToken token.TextEnd = Unit {0}
  IsToken (token.Atomic k mode) = Unit {0}
  IsToken (token.Start k takes) = IsBox k
  IsToken (token.End k) = Unit {0}
  IsToken (token.Float k) = Unit {0}
  IsToken (token.Anchor k) = Unit {0}

  abbrev IsEntry : Entry → Type 0
  IsEntry (entry.Content x) = IsToken x
  IsEntry (entry.Break forced) = Unit {0}

  abbrev pub IsSegment : Segment → Type 0
  IsSegment s = Each IsItem s.items

  -- White space processing.
  left : (after : Bool) (xs : List Item) → Each IsItem xs → Each IsItem (processed after xs)
  left after [] h = tt
  left after (item.Text k text mode widths ∷ xs) h = (h.0, left (space_after after mode text) xs h.1)
  left after (item.Atomic k mode ∷ xs) h = (tt, left false xs h.1)
  left after (item.Start k takes ∷ xs) h = (h.0, left after xs h.1)
  left after (item.End k ∷ xs) h = (tt, left after xs h.1)
  left after (item.Float k ∷ xs) h = (tt, left after xs h.1)
  left after (item.Anchor k ∷ xs) h = (tt, left after xs h.1)

  sized : (face : FaceValue) (boxes : List BoxNode) (x : Item) → IsItem x → IsItem (measured_item face boxes x)
  sized face boxes (item.Text k text mode widths) h = h
  sized face boxes (item.Atomic k mode) h = tt
  sized face boxes (item.Start k takes) h = h
  sized face boxes (item.End k) h = tt
  sized face boxes (item.Float k) h = tt
  sized face boxes (item.Anchor k) h = tt

  all-sized : (face : FaceValue) (boxes : List BoxNode) (xs : List Item) → Each IsItem xs → Each IsItem (measured face boxes xs)
  all-sized face boxes xs h = each-map IsItem (measured_item face boxes) xs (each-weaker IsItem (λ x. IsItem (measured_item face boxes x)) (sized face boxes) xs h)

  -- Tokens.
  clusters : (i k : ℕ) (m : Mode) (text : List ℕ) (ws : List ClusterWidth) → IsText k → Each IsToken (cluster_tokens i k m text ws)
  clusters i k m text [] h = tt
  clusters i k m text (w ∷ ws) h = (h, clusters i k m text ws h)

  item-tokens : (i : ℕ) (x : Item) → IsItem x → Each IsToken (tokens_of_item i x)
  item-tokens i (item.Text k text mode widths) h = each-append IsToken (cluster_tokens i k mode text widths) (token.TextEnd ∷ []) (clusters i k mode text widths h) (tt, tt)
  item-tokens i (item.Atomic k mode) h = (tt, tt)
  item-tokens i (item.Start k takes) h = (h, tt)
  item-tokens i (item.End k) h = (tt, tt)
  item-tokens i (item.Float k) h = (tt, tt)
  item-tokens i (item.Anchor k) h = (tt, tt)

  all-tokens : (i : ℕ) (xs : List Item) → Each IsItem xs → Each IsToken (tokens_of i xs)
  all-tokens i [] h = tt
  all-tokens i (x ∷ xs) h = each-append IsToken (tokens_of_item i x) (tokens_of (i + 1) xs) (item-tokens i x h.0) (all-tokens (i + 1) xs h.1)

  leading : (first : Bool) (xs : List Token) → Each IsToken xs → Each IsToken (without_leading_spaces first xs)
  leading first [] h = tt
  leading first (x ∷ xs) h =
      each-if IsToken (first && is_collapsible x) (without_leading_spaces first xs) (x ∷ without_leading_spaces (begins_line first x) xs)
      (leading first xs h.1) (h.0, leading (begins_line first x) xs h.1)

  -- Breaks, which leave what is in flow as it is; the others name nothing that counts.
  out-of-flow : (x : Token) → not (is_token_out_of_flow x) ≡ false → IsToken x
  out-of-flow (token.Float k) e = tt
  out-of-flow (token.Anchor k) e = tt
  out-of-flow _ e = absurd cc

  of-content : (es : List Entry) → Each IsToken (content_of es) → Each IsEntry es
  of-content [] h = tt
  of-content (entry.Content x ∷ es) h = (h.0, of-content es h.1)
  of-content (entry.Break forced ∷ es) h = (tt, of-content es h)

  entries : (xs : List Token) → Each IsToken xs → Each IsEntry (entries_of xs)
  entries xs h =
      of-content (entries_of xs) (each-unfilter IsToken (λ (x : Token). not (is_token_out_of_flow x)) out-of-flow (content_of (entries_of xs))
      (subst (Each IsToken) (sym (breaks_keep_content_lem xs).flow) (each-filter IsToken (λ (x : Token). not (is_token_out_of_flow x)) xs h)))

  -- Segments.
  abbrev IsCluster : Cluster → Type 0
  IsCluster c = IsText c.node

  text : (items : List Item) (held : List Cluster) → Each IsCluster held → Each IsItem (text_of items held)
  text items [] h = tt
  text items (c ∷ cs) h = (h.0, tt)

  last : (xs : List Item) → Each IsItem xs → Each IsSegment (last_segment xs)
  last [] h = tt
  last (x ∷ xs) h = (h, tt)

  with-text : (items current : List Item) (held : List Cluster) → Each IsItem current → Each IsCluster held → Each IsItem (current ++ text_of items held)
  with-text items current held h g = each-append IsItem current (text_of items held) h (text items held g)

  with-item : (items current : List Item) (held : List Cluster) (x : Item) → Each IsItem current → Each IsCluster held → IsItem x → Each IsItem (current ++ text_of items held ++ x ∷ [])
  with-item items current held x h g i = each-append IsItem (current ++ text_of items held) (x ∷ []) (with-text items current held h g) (i, tt)

  cuts : (items current : List Item) (held : List Cluster) (es : List Entry) → Each IsItem current → Each IsCluster held → Each IsEntry es → Each IsSegment (cut items current held es)
  cuts items current held [] h g e = last (current ++ text_of items held) (with-text items current held h g)
  cuts items current held (entry.Break f ∷ xs) h g e = (with-text items current held h g, cuts items [] [] xs tt tt e.1)
  cuts items current held (entry.Content (token.Cluster c) ∷ xs) h g e = cuts items current (held ++ c ∷ []) xs h (each-append IsCluster held (c ∷ []) g (e.0, tt)) e.1
  cuts items current held (entry.Content token.TextEnd ∷ xs) h g e = cuts items (current ++ text_of items held) [] xs (with-text items current held h g) tt e.1
  cuts items current held (entry.Content (token.Atomic n m) ∷ xs) h g e =
      cuts items (current ++ text_of items held ++ item.Atomic n m ∷ []) [] xs (with-item items current held (item.Atomic n m) h g tt) tt e.1
  cuts items current held (entry.Content (token.Start n takes) ∷ xs) h g e =
      cuts items (current ++ text_of items held ++ item.Start n takes ∷ []) [] xs (with-item items current held (item.Start n takes) h g e.0) tt e.1
  cuts items current held (entry.Content (token.End n) ∷ xs) h g e =
      cuts items (current ++ text_of items held ++ item.End n ∷ []) [] xs (with-item items current held (item.End n) h g tt) tt e.1
  cuts items current held (entry.Content (token.Float n) ∷ xs) h g e =
      cuts items (current ++ text_of items held ++ item.Float n ∷ []) [] xs (with-item items current held (item.Float n) h g tt) tt e.1
  cuts items current held (entry.Content (token.Anchor n) ∷ xs) h g e =
      cuts items (current ++ text_of items held ++ item.Anchor n ∷ []) [] xs (with-item items current held (item.Anchor n) h g tt) tt e.1

  pub segments : (face : FaceValue) (boxes : List BoxNode) (c : ℕ) → Each IsItem (items_of boxes c) → Each IsSegment (segments_in face boxes c)
  segments face boxes c h =
      let xs : List Item = items_in face boxes c in
      let measured = all-sized face boxes (processed false (items_of boxes c)) (left false (items_of boxes c) h) in
      cuts xs [] [] (entries_of (without_leading_spaces true (tokens_of 0 xs))) tt tt
      (entries (without_leading_spaces true (tokens_of 0 xs)) (leading true (tokens_of 0 xs) (all-tokens 0 xs measured)))

-- A box, and a box that is a text, of these.
abbrev pub IsBoxIn : List BoxNode → ℕ → Type 0
IsBoxIn boxes k = k < length boxes

pub record IsTextIn (boxes : List BoxNode) (k : ℕ) : Type 0 where
  pub within : k < length boxes
  pub is : role_of (box_at boxes k) ≡ role.Text

module _ (boxes : List BoxNode) where
  abbrev Is : Item → Type 0
  Is x = IsItem (IsBoxIn boxes) (IsTextIn boxes) x

  by-role : (r : Role) (k : ℕ) (b : BoxNode) (inside : List Item) → k < length boxes → (r ≡ role.Text → IsTextIn boxes k) → Each Is inside → Each Is (items_as boxes r k b inside)
  by-role role.Text k b inside lt text h = (text refl, tt)
  by-role role.Inline k b inside lt text h = (lt, each-append Is inside (item.End k ∷ []) h (tt, tt))
  by-role role.Atomic k b inside lt text h = (tt, tt)
  by-role role.LeftFloat k b inside lt text h = (tt, tt)
  by-role role.RightFloat k b inside lt text h = (tt, tt)
  by-role role.Anchor k b inside lt text h = (tt, tt)
  by-role role.Own k b inside lt text h = tt
  by-role role.Block k b inside lt text h = tt
  by-role role.Solid k b inside lt text h = tt
  by-role role.TablePart k b inside lt text h = tt

  below : (p k : ℕ) (bs : List BoxNode) → drop k boxes ≡ bs → Each Is (items_below boxes p k bs)
  below p k [] e = tt
  below p k (b ∷ bs) e =
      let f = first-left k boxes b no_box bs e in
      let next : drop (k + 1) boxes ≡ bs = drop-next k boxes b bs e in
      let rest = below p (k + 1) bs next in
      each-if Is (b.parent == p) (items_at boxes k b (items_below boxes k (k + 1) bs) ++ items_below boxes p (k + 1) bs) (items_below boxes p (k + 1) bs)
      (each-append Is (items_at boxes k b (items_below boxes k (k + 1) bs)) (items_below boxes p (k + 1) bs)
      (by-role (role_of b) k b (items_below boxes k (k + 1) bs) f.within (λ r. record { within = f.within; is = ap role_of f.is ∙ r }) (below k (k + 1) bs next))
      rest)
      rest

  pub container-segments : (face : FaceValue) (c : ℕ) → Each (IsSegment (IsBoxIn boxes) (IsTextIn boxes)) (segments_in face boxes c)
  container-segments face c = segments (IsBoxIn boxes) (IsTextIn boxes) face boxes c (below c (c + 1) (drop (c + 1) boxes) refl)
