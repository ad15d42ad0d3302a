-- White space processing and breaks lose no anchor: one among the items of a block container is in one of its segments.
use Rattle.std.proofs.Common.{◌≡◌, ℕ, ◌+◌, ◌==◌, ◌&&◌, ◌||◌, Bool, true, false, List, [], ◌∷◌, ◌++◌, refl, sym, ap, ◌∙◌, if◌then◌else◌}
use Rattle.std.specs.List.{filter, list_any}
use Rattle.std.proofs.lemmas.List.Folds.{list_any-append}
use Rattle.lay_units.specs.declared.records.ClusterWidth.{ClusterWidth}
use Rattle.lay_box_tree.specs.declared.box_tree.BoxNode.{BoxNode}
use Rattle.lay_face.specs.FaceValue.{FaceValue}
use Rattle.lay_space.specs.declared.item.Mode.{Mode}
use Rattle.lay_space.specs.declared.item.Item.{Item}
use Rattle.lay_space.specs.declared.item.Item.TheVariants as item
use Rattle.lay_space.specs.declared.segment.Segment.{Segment}
use Rattle.lay_space.specs.declared.tokens.Cluster.{Cluster}
use Rattle.lay_space.specs.declared.tokens.Token.{Token}
use Rattle.lay_space.specs.declared.tokens.Token.TheVariants as token
use Rattle.lay_space.specs.declared.breaks.Entry.{Entry}
use Rattle.lay_space.specs.declared.breaks.Entry.TheVariants as entry
use Rattle.lay_space.specs.Breaks.{entries_of}
use Rattle.lay_space.specs.Laws.{content_of, is_token_out_of_flow}
use Rattle.lay_space.specs.Segments.{cut, last_segment, segments_of, text_of}
use Rattle.lay_space.specs.Tokens.{begins_line, cluster_tokens, is_collapsible, tokens_of, tokens_of_item, without_leading_spaces}
use Rattle.lay_space.specs.WhiteSpace.{processed, space_after}
use Rattle.lay_placement.proofs.Cited.{breaks_keep_content_lem}
use Rattle.lay_line_items.specs.InlineItems.{items_of}
use Rattle.lay_line_items.specs.InlineSegments.{items_in, measured, measured_item, segments_in}
use Rattle.lay_flow_boxes.specs.LineItems.{Sort, anchor, named, sorts_of}
use Rattle.lay_placement.specs.StaticPositions.{holds_anchor, is_anchor_of}

-- One anchor.
module _ (k : ℕ) where
  abbrev pub has_anchor : List Item → Bool
  has_anchor xs = list_any (is_anchor_of k) xs

  abbrev is_anchor_token : Token → Bool
  is_anchor_token (token.Anchor n) = n == k
  is_anchor_token (token.Cluster c) = false
  is_anchor_token token.TextEnd = false
  is_anchor_token (token.Atomic n m) = false
  is_anchor_token (token.Start n takes) = false
  is_anchor_token (token.End n) = false
  is_anchor_token (token.Float n) = false

  abbrev has_token : List Token → Bool
  has_token xs = list_any is_anchor_token xs

  or_none : (b : Bool) → (b || false) ≡ b
  or_none true = refl
  or_none false = refl

  or_assoc : (a b c : Bool) → ((a || b) || c) ≡ (a || (b || c))
  or_assoc true b c = refl
  or_assoc false b c = refl

  -- an item that is the anchor
  named_anchor : (x : Item) → (named x).sort ≡ anchor → is_anchor_of k x ≡ ((named x).box == k)
  named_anchor (item.Anchor n) e = refl
  named_anchor (item.Text n text mode widths) e = absurd cc
  named_anchor (item.Atomic n mode) e = absurd cc
  named_anchor (item.Start n takes) e = absurd cc
  named_anchor (item.End n) e = absurd cc
  named_anchor (item.Float n) e = absurd cc

  pub sort_is_there : (xs : List Item) (more : List Sort) → sorts_of k xs ≡ anchor ∷ more → has_anchor xs ≡ true
  sort_is_there [] more e = absurd cc
  sort_is_there (x ∷ xs) more e = by (sort_is_there xs more) ((named x).box == k) refl e
    where
      or_first : (a b : Bool) → a ≡ true → (a || b) ≡ true
      or_first true b e = refl
      or_first false b e = absurd cc

      or_second : (a b : Bool) → b ≡ true → (a || b) ≡ true
      or_second true b e = refl
      or_second false b e = e

      by : (sorts_of k xs ≡ anchor ∷ more → has_anchor xs ≡ true) → (b : Bool) → ((named x).box == k) ≡ b → (if b then (named x).sort ∷ sorts_of k xs else sorts_of k xs) ≡ anchor ∷ more
          → has_anchor (x ∷ xs) ≡ true
      by rest true same e = or_first (is_anchor_of k x) (has_anchor xs) (named_anchor x (let q : (named x).sort ≡ anchor = cc in q) ∙ same)
      by rest false other e = or_second (is_anchor_of k x) (has_anchor xs) (rest e)

  -- white space processing
  processed_same : (after : Bool) (xs : List Item) → has_anchor (processed after xs) ≡ has_anchor xs
  processed_same after [] = refl
  processed_same after (item.Text n text mode widths ∷ xs) = processed_same (space_after after mode text) xs
  processed_same after (item.Atomic n mode ∷ xs) = processed_same false xs
  processed_same after (item.Start n takes ∷ xs) = processed_same after xs
  processed_same after (item.End n ∷ xs) = processed_same after xs
  processed_same after (item.Float n ∷ xs) = processed_same after xs
  processed_same after (item.Anchor n ∷ xs) = ap (λ b. n == k || b) (processed_same after xs)

  measured_one : (face : FaceValue) (boxes : List BoxNode) (x : Item) → is_anchor_of k (measured_item face boxes x) ≡ is_anchor_of k x
  measured_one face boxes (item.Text n text mode widths) = refl
  measured_one face boxes (item.Atomic n mode) = refl
  measured_one face boxes (item.Start n takes) = refl
  measured_one face boxes (item.End n) = refl
  measured_one face boxes (item.Float n) = refl
  measured_one face boxes (item.Anchor n) = refl

  measured_same : (face : FaceValue) (boxes : List BoxNode) (xs : List Item) → has_anchor (measured face boxes xs) ≡ has_anchor xs
  measured_same face boxes [] = refl
  measured_same face boxes (x ∷ xs) =
      ap (λ b. b || has_anchor (measured face boxes xs)) (measured_one face boxes x) ∙ ap (λ b. is_anchor_of k x || b) (measured_same face boxes xs)

  -- tokens
  no_clusters : (i n : ℕ) (m : Mode) (text : List ℕ) (ws : List ClusterWidth) → has_token (cluster_tokens i n m text ws) ≡ false
  no_clusters i n m text [] = refl
  no_clusters i n m text (w ∷ ws) = no_clusters i n m text ws

  token_of_item : (i : ℕ) (x : Item) → has_token (tokens_of_item i x) ≡ is_anchor_of k x
  token_of_item i (item.Text n text m ws) =
      list_any-append is_anchor_token (cluster_tokens i n m text ws) (token.TextEnd ∷ []) ∙ ap (λ b. b || false) (no_clusters i n m text ws)
  token_of_item i (item.Atomic n mode) = refl
  token_of_item i (item.Start n takes) = refl
  token_of_item i (item.End n) = refl
  token_of_item i (item.Float n) = refl
  token_of_item i (item.Anchor n) = or_none (n == k)

  tokens_same : (i : ℕ) (xs : List Item) → has_token (tokens_of i xs) ≡ has_anchor xs
  tokens_same i [] = refl
  tokens_same i (x ∷ xs) =
      list_any-append is_anchor_token (tokens_of_item i x) (tokens_of (i + 1) xs)
      ∙ ap (λ b. b || has_token (tokens_of (i + 1) xs)) (token_of_item i x) ∙ ap (λ b. is_anchor_of k x || b) (tokens_same (i + 1) xs)

  no_space : (x : Token) → is_collapsible x ≡ true → is_anchor_token x ≡ false
  no_space (token.Cluster c) e = refl
  no_space token.TextEnd e = refl
  no_space (token.Atomic n m) e = refl
  no_space (token.Start n takes) e = refl
  no_space (token.End n) e = refl
  no_space (token.Float n) e = refl
  no_space (token.Anchor n) e = absurd cc

  spaces_same : (first : Bool) (xs : List Token) → has_token (without_leading_spaces first xs) ≡ has_token xs
  spaces_same first [] = refl
  spaces_same first (x ∷ xs) = by first (is_collapsible x) refl (spaces_same first xs) (spaces_same (begins_line first x) xs)
    where
      by : (a b : Bool) → is_collapsible x ≡ b → has_token (without_leading_spaces first xs) ≡ has_token xs → has_token (without_leading_spaces (begins_line first x) xs) ≡ has_token xs
          → has_token (if a && b then without_leading_spaces first xs else (x ∷ without_leading_spaces (begins_line first x) xs)) ≡ has_token (x ∷ xs)
      by true true e one two = one ∙ sym (ap (λ b. b || has_token xs) (no_space x e))
      by true false e one two = ap (λ b. is_anchor_token x || b) two
      by false b e one two = ap (λ b. is_anchor_token x || b) two

  -- breaks
  no_flow : (x : Token) → is_token_out_of_flow x ≡ false → is_anchor_token x ≡ false
  no_flow (token.Cluster c) e = refl
  no_flow token.TextEnd e = refl
  no_flow (token.Atomic n m) e = refl
  no_flow (token.Start n takes) e = refl
  no_flow (token.End n) e = refl
  no_flow (token.Float n) e = refl
  no_flow (token.Anchor n) e = absurd cc

  filtered_same : (xs : List Token) → has_token (filter is_token_out_of_flow xs) ≡ has_token xs
  filtered_same [] = refl
  filtered_same (x ∷ xs) = by (is_token_out_of_flow x) refl (filtered_same xs)
    where
      by : (b : Bool) → is_token_out_of_flow x ≡ b → has_token (filter is_token_out_of_flow xs) ≡ has_token xs
          → has_token (if b then x ∷ filter is_token_out_of_flow xs else filter is_token_out_of_flow xs) ≡ has_token (x ∷ xs)
      by true e rest = ap (λ b. is_anchor_token x || b) rest
      by false e rest = rest ∙ sym (ap (λ b. b || has_token xs) (no_flow x e))

  breaks_same : (xs : List Token) → has_token (content_of (entries_of xs)) ≡ has_token xs
  breaks_same xs = sym (filtered_same (content_of (entries_of xs))) ∙ ap has_token (breaks_keep_content_lem xs).out_of_flow ∙ filtered_same xs

  -- segments
  abbrev in_segments : List Segment → Bool
  in_segments ss = list_any (holds_anchor k) ss

  no_text : (items : List Item) (held : List Cluster) → has_anchor (text_of items held) ≡ false
  no_text items [] = refl
  no_text items (c ∷ cs) = refl

  with_text : (current items : List Item) (held : List Cluster) → has_anchor (current ++ text_of items held) ≡ has_anchor current
  with_text current items held = list_any-append (is_anchor_of k) current (text_of items held) ∙ ap (λ b. has_anchor current || b) (no_text items held) ∙ or_none (has_anchor current)

  with_item : (current items : List Item) (held : List Cluster) (x : Item) → has_anchor (current ++ text_of items held ++ x ∷ []) ≡ (has_anchor current || is_anchor_of k x)
  with_item current items held x =
      list_any-append (is_anchor_of k) (current ++ text_of items held) (x ∷ [])
      ∙ ap (λ b. b || (is_anchor_of k x || false)) (with_text current items held) ∙ ap (λ b. has_anchor current || b) (or_none (is_anchor_of k x))

  last_same : (xs : List Item) → in_segments (last_segment xs) ≡ has_anchor xs
  last_same [] = refl
  last_same (x ∷ xs) = or_none (has_anchor (x ∷ xs))

  put : (current items : List Item) (held : List Cluster) (x : Item) (rest : Bool) (ss : Bool) → ss ≡ (has_anchor (current ++ text_of items held ++ x ∷ []) || rest) → ss ≡ (has_anchor current || (is_anchor_of k x || rest))
  put current items held x rest ss e = e ∙ ap (λ b. b || rest) (with_item current items held x) ∙ or_assoc (has_anchor current) (is_anchor_of k x) rest

  cut_same : (items current : List Item) (held : List Cluster) (es : List Entry) → in_segments (cut items current held es) ≡ (has_anchor current || has_token (content_of es))
  cut_same items current held [] = last_same (current ++ text_of items held) ∙ with_text current items held ∙ sym (or_none (has_anchor current))
  cut_same items current held (entry.Break f ∷ xs) =
      ap (λ b. has_anchor (current ++ text_of items held) || b) (cut_same items [] [] xs) ∙ ap (λ b. b || has_token (content_of xs)) (with_text current items held)
  cut_same items current held (entry.Content (token.Cluster c) ∷ xs) = cut_same items current (held ++ c ∷ []) xs
  cut_same items current held (entry.Content token.TextEnd ∷ xs) =
      cut_same items (current ++ text_of items held) [] xs ∙ ap (λ b. b || has_token (content_of xs)) (with_text current items held)
  cut_same items current held (entry.Content (token.Atomic n m) ∷ xs) = put current items held (item.Atomic n m) (has_token (content_of xs)) _ (cut_same items (current ++ text_of items held ++ item.Atomic n m ∷ []) [] xs)
  cut_same items current held (entry.Content (token.Start n takes) ∷ xs) = put current items held (item.Start n takes) (has_token (content_of xs)) _ (cut_same items (current ++ text_of items held ++ item.Start n takes ∷ []) [] xs)
  cut_same items current held (entry.Content (token.End n) ∷ xs) = put current items held (item.End n) (has_token (content_of xs)) _ (cut_same items (current ++ text_of items held ++ item.End n ∷ []) [] xs)
  cut_same items current held (entry.Content (token.Float n) ∷ xs) = put current items held (item.Float n) (has_token (content_of xs)) _ (cut_same items (current ++ text_of items held ++ item.Float n ∷ []) [] xs)
  cut_same items current held (entry.Content (token.Anchor n) ∷ xs) = put current items held (item.Anchor n) (has_token (content_of xs)) _ (cut_same items (current ++ text_of items held ++ item.Anchor n ∷ []) [] xs)

  segments_same : (items : List Item) → in_segments (segments_of items) ≡ has_anchor items
  segments_same items =
      cut_same items [] [] (entries_of (without_leading_spaces true (tokens_of 0 items)))
      ∙ breaks_same (without_leading_spaces true (tokens_of 0 items)) ∙ spaces_same true (tokens_of 0 items) ∙ tokens_same 0 items

  pub anchor_in_segments : (face : FaceValue) (boxes : List BoxNode) (c : ℕ) → list_any (holds_anchor k) (segments_in face boxes c) ≡ list_any (is_anchor_of k) (items_of boxes c)
  anchor_in_segments face boxes c =
      segments_same (items_in face boxes c) ∙ measured_same face boxes (processed false (items_of boxes c)) ∙ processed_same false (items_of boxes c)
