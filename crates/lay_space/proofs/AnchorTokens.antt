-- The tokens of content without anchors.
use Rattle.std.proofs.Common.{◌≡◌, ℕ, zero, suc, ◌+◌, ◌++◌, Bool, true, false, if◌then◌else◌, ◌&&◌, List, [], ◌∷◌, length, slice_get, None, refl, ap, ◌∙◌, arith}
use Rattle.std.proofs.lemmas.Bool.{true≢false}
use Rattle.lay_units.specs.declared.records.ClusterWidth.{ClusterWidth}
use Rattle.lay_space.specs.declared.item.Mode.{Mode}
use Rattle.lay_space.specs.declared.item.Item.{Item}
use Rattle.lay_space.specs.declared.item.Item.TheVariants as item
use Rattle.lay_space.specs.declared.tokens.Cluster.{Cluster}
use Rattle.lay_space.specs.declared.tokens.Token.{Token}
use Rattle.lay_space.specs.declared.tokens.Token.TheVariants as token
use Rattle.lay_space.specs.Tokens.{kind_of, next_place, cluster_tokens, tokens_of, is_collapsible, begins_line, without_leading_spaces}
use Rattle.lay_space.specs.Segments.{bytes_of}
use Rattle.lay_space.specs.AnchorLaws.{without_anchors}
use Rattle.lay_space.proofs.AnchorBreaks.{moved, kept, TextsEnd}

-- where an item stands without the anchors; an anchor stands nowhere, which is behind all others
abbrev pub place : List Item → ℕ → ℕ
place [] i = zero
place (item.Text node text mode widths ∷ xs) zero = zero
place (item.Text node text mode widths ∷ xs) (suc i) = suc (place xs i)
place (item.Atomic n m ∷ xs) zero = zero
place (item.Atomic n m ∷ xs) (suc i) = suc (place xs i)
place (item.Start n takes ∷ xs) zero = zero
place (item.Start n takes ∷ xs) (suc i) = suc (place xs i)
place (item.End n ∷ xs) zero = zero
place (item.End n ∷ xs) (suc i) = suc (place xs i)
place (item.Float n ∷ xs) zero = zero
place (item.Float n ∷ xs) (suc i) = suc (place xs i)
place (item.Anchor n ∷ xs) zero = length (without_anchors xs)
place (item.Anchor n ∷ xs) (suc i) = place xs i

nothing_there : (xs : List Item) → slice_get xs (length xs) ≡ None
nothing_there [] = refl
nothing_there (x ∷ xs) = nothing_there xs

pub bytes_kept : (items : List Item) (i : ℕ) → bytes_of (slice_get (without_anchors items) (place items i)) ≡ bytes_of (slice_get items i)
bytes_kept [] i = refl
bytes_kept (item.Text node text mode widths ∷ xs) zero = refl
bytes_kept (item.Text node text mode widths ∷ xs) (suc i) = bytes_kept xs i
bytes_kept (item.Atomic n m ∷ xs) zero = refl
bytes_kept (item.Atomic n m ∷ xs) (suc i) = bytes_kept xs i
bytes_kept (item.Start n takes ∷ xs) zero = refl
bytes_kept (item.Start n takes ∷ xs) (suc i) = bytes_kept xs i
bytes_kept (item.End n ∷ xs) zero = refl
bytes_kept (item.End n ∷ xs) (suc i) = bytes_kept xs i
bytes_kept (item.Float n ∷ xs) zero = refl
bytes_kept (item.Float n ∷ xs) (suc i) = bytes_kept xs i
bytes_kept (item.Anchor n ∷ xs) zero = ap bytes_of (nothing_there (without_anchors xs))
bytes_kept (item.Anchor n ∷ xs) (suc i) = bytes_kept xs i

kept_append : (f : ℕ → ℕ) (a b : List Token) → kept f (a ++ b) ≡ kept f a ++ kept f b
kept_append f [] b = refl
kept_append f (token.Cluster c ∷ a) b = ap (λ xs. token.Cluster (moved f c) ∷ xs) (kept_append f a b)
kept_append f (token.TextEnd ∷ a) b = ap (λ xs. token.TextEnd ∷ xs) (kept_append f a b)
kept_append f (token.Atomic n m ∷ a) b = ap (λ xs. token.Atomic n m ∷ xs) (kept_append f a b)
kept_append f (token.Start n takes ∷ a) b = ap (λ xs. token.Start n takes ∷ xs) (kept_append f a b)
kept_append f (token.End n ∷ a) b = ap (λ xs. token.End n ∷ xs) (kept_append f a b)
kept_append f (token.Float n ∷ a) b = ap (λ xs. token.Float n ∷ xs) (kept_append f a b)
kept_append f (token.Anchor n ∷ a) b = kept_append f a b

clusters_kept : (f : ℕ → ℕ) (k j node : ℕ) (m : Mode) (text : List ℕ) (ws : List ClusterWidth) → f k ≡ j
    → kept f (cluster_tokens k node m text ws ++ token.TextEnd ∷ []) ≡ cluster_tokens j node m text ws ++ token.TextEnd ∷ []
clusters_kept f k j node m text [] e = refl
clusters_kept f k j node m text (w ∷ ws) e =
    let to = next_place text ws in
    ap (λ i. token.Cluster (record {
      item = i;
      node = node;
      mode = m;
      kind = kind_of m text w.place to;
      from = w.place;
      to = to;
      width = w.width;
    }) ∷ kept f (cluster_tokens k node m text ws ++ token.TextEnd ∷ [])) e
    ∙ ap (λ xs. token.Cluster (record {
      item = j;
      node = node;
      mode = m;
      kind = kind_of m text w.place to;
      from = w.place;
      to = to;
      width = w.width;
    }) ∷ xs) (clusters_kept f k j node m text ws e)

-- `f` is where items from the k-th on stand without the anchors, of which the k-th is the j-th
abbrev pub IsPlace : (ℕ → ℕ) → ℕ → ℕ → List Item → Type 0
IsPlace f k j items = (i : ℕ) → f (i + k) ≡ place items i + j

next_one : (f : ℕ → ℕ) (k j : ℕ) (xs : List Item) → ((i : ℕ) → f (suc i + k) ≡ suc (place xs i) + j) → IsPlace f (k + 1) (j + 1) xs
next_one f k j xs is i =
    let from : i + (k + 1) ≡ suc i + k = omega arith in
    let to : suc (place xs i) + j ≡ place xs i + (j + 1) = omega arith in
    ap f from ∙ is i ∙ to

next_same : (f : ℕ → ℕ) (k j : ℕ) (xs : List Item) → ((i : ℕ) → f (suc i + k) ≡ place xs i + j) → IsPlace f (k + 1) j xs
next_same f k j xs is i =
    let from : i + (k + 1) ≡ suc i + k = omega arith in
    ap f from ∙ is i

first_place : (f : ℕ → ℕ) (k j : ℕ) → f (0 + k) ≡ 0 + j → f k ≡ j
first_place f k j is =
    let from : k ≡ 0 + k = omega arith in
    let to : 0 + j ≡ j = omega arith in
    ap f from ∙ is ∙ to

pub tokens_kept : (f : ℕ → ℕ) (k j : ℕ) (items : List Item) → IsPlace f k j items → kept f (tokens_of k items) ≡ tokens_of j (without_anchors items)
tokens_kept f k j [] is = refl
tokens_kept f k j (item.Text node text m widths ∷ xs) is =
    kept_append f (cluster_tokens k node m text widths ++ token.TextEnd ∷ []) (tokens_of (k + 1) xs)
    ∙ ap (λ a. a ++ kept f (tokens_of (k + 1) xs)) (clusters_kept f k j node m text widths (first_place f k j (is 0)))
    ∙ ap (λ a. (cluster_tokens j node m text widths ++ token.TextEnd ∷ []) ++ a) (tokens_kept f (k + 1) (j + 1) xs (next_one f k j xs (λ i. is (suc i))))
tokens_kept f k j (item.Atomic n m ∷ xs) is = ap (λ a. token.Atomic n m ∷ a) (tokens_kept f (k + 1) (j + 1) xs (next_one f k j xs (λ i. is (suc i))))
tokens_kept f k j (item.Start n takes ∷ xs) is = ap (λ a. token.Start n takes ∷ a) (tokens_kept f (k + 1) (j + 1) xs (next_one f k j xs (λ i. is (suc i))))
tokens_kept f k j (item.End n ∷ xs) is = ap (λ a. token.End n ∷ a) (tokens_kept f (k + 1) (j + 1) xs (next_one f k j xs (λ i. is (suc i))))
tokens_kept f k j (item.Float n ∷ xs) is = ap (λ a. token.Float n ∷ a) (tokens_kept f (k + 1) (j + 1) xs (next_one f k j xs (λ i. is (suc i))))
tokens_kept f k j (item.Anchor n ∷ xs) is = tokens_kept f (k + 1) j xs (next_same f k j xs (λ i. is (suc i)))

-- Leading spaces go as they go without anchors.
choice : (f : ℕ → ℕ) (b : Bool) (x y : Token) (a a' c c' : List Token) → ((r : List Token) → kept f (x ∷ r) ≡ y ∷ kept f r) → kept f a ≡ a' → kept f c ≡ c'
    → kept f (if b then a else (x ∷ c)) ≡ (if b then a' else (y ∷ c'))
choice f true x y a a' c c' stays gone here = gone
choice f false x y a a' c c' stays gone here = stays c ∙ ap (λ r. y ∷ r) here

pub leading_kept : (f : ℕ → ℕ) (first : Bool) (xs : List Token) → kept f (without_leading_spaces first xs) ≡ without_leading_spaces first (kept f xs)
leading_kept f first [] = refl
leading_kept f first (token.Cluster c ∷ xs) =
    choice f (first && is_collapsible (token.Cluster c)) (token.Cluster c) (token.Cluster (moved f c)) _ _ _ _ (λ r. refl)
    (leading_kept f first xs) (leading_kept f (begins_line first (token.Cluster c)) xs)
leading_kept f first (token.TextEnd ∷ xs) = choice f (first && false) token.TextEnd token.TextEnd _ _ _ _ (λ r. refl) (leading_kept f first xs) (leading_kept f first xs)
leading_kept f first (token.Atomic n m ∷ xs) = choice f (first && false) (token.Atomic n m) (token.Atomic n m) _ _ _ _ (λ r. refl) (leading_kept f first xs) (leading_kept f false xs)
leading_kept f first (token.Start n takes ∷ xs) = choice f (first && false) (token.Start n takes) (token.Start n takes) _ _ _ _ (λ r. refl) (leading_kept f first xs) (leading_kept f first xs)
leading_kept f first (token.End n ∷ xs) = choice f (first && false) (token.End n) (token.End n) _ _ _ _ (λ r. refl) (leading_kept f first xs) (leading_kept f first xs)
leading_kept f first (token.Float n ∷ xs) = choice f (first && false) (token.Float n) (token.Float n) _ _ _ _ (λ r. refl) (leading_kept f first xs) (leading_kept f first xs)
leading_kept f true (token.Anchor n ∷ xs) = leading_kept f true xs
leading_kept f false (token.Anchor n ∷ xs) = leading_kept f false xs

-- Texts end before anything else begins.
pub shut : (inside : Bool) (xs : List Token) → TextsEnd true xs → TextsEnd inside xs
shut true xs is = is
shut false [] is = tt
shut false (token.Cluster c ∷ xs) is = is
shut false (token.TextEnd ∷ xs) is = is
shut false (token.Atomic n m ∷ xs) is = absurd (true≢false is.0)
shut false (token.Start n takes ∷ xs) is = absurd (true≢false is.0)
shut false (token.End n ∷ xs) is = absurd (true≢false is.0)
shut false (token.Float n ∷ xs) is = absurd (true≢false is.0)
shut false (token.Anchor n ∷ xs) is = absurd (true≢false is.0)

either : (b inside : Bool) (c : Cluster) (xs ys : List Token) → TextsEnd true xs → TextsEnd true ys → TextsEnd inside (if b then xs else (token.Cluster c ∷ ys))
either true inside c xs ys gone here = shut inside xs gone
either false inside c xs ys gone here = here

pub leading_ends : (first inside : Bool) (xs : List Token) → TextsEnd inside xs → TextsEnd inside (without_leading_spaces first xs)
leading_ends first inside [] is = is
leading_ends first inside (token.Cluster c ∷ xs) is =
    either (first && is_collapsible (token.Cluster c)) inside c (without_leading_spaces first xs) (without_leading_spaces (begins_line first (token.Cluster c)) xs)
    (leading_ends first true xs is) (leading_ends (begins_line first (token.Cluster c)) true xs is)
leading_ends true inside (token.TextEnd ∷ xs) is = leading_ends true false xs is
leading_ends false inside (token.TextEnd ∷ xs) is = leading_ends false false xs is
leading_ends true inside (token.Atomic n m ∷ xs) is = (is.0, leading_ends false false xs is.1)
leading_ends false inside (token.Atomic n m ∷ xs) is = (is.0, leading_ends false false xs is.1)
leading_ends true inside (token.Start n takes ∷ xs) is = (is.0, leading_ends true false xs is.1)
leading_ends false inside (token.Start n takes ∷ xs) is = (is.0, leading_ends false false xs is.1)
leading_ends true inside (token.End n ∷ xs) is = (is.0, leading_ends true false xs is.1)
leading_ends false inside (token.End n ∷ xs) is = (is.0, leading_ends false false xs is.1)
leading_ends true inside (token.Float n ∷ xs) is = (is.0, leading_ends true false xs is.1)
leading_ends false inside (token.Float n ∷ xs) is = (is.0, leading_ends false false xs is.1)
leading_ends true inside (token.Anchor n ∷ xs) is = (is.0, leading_ends true false xs is.1)
leading_ends false inside (token.Anchor n ∷ xs) is = (is.0, leading_ends false false xs is.1)

clusters_end : (inside : Bool) (k node : ℕ) (m : Mode) (text : List ℕ) (ws : List ClusterWidth) (rest : List Token) → TextsEnd false rest
    → TextsEnd inside ((cluster_tokens k node m text ws ++ token.TextEnd ∷ []) ++ rest)
clusters_end inside k node m text [] rest is = is
clusters_end inside k node m text (w ∷ ws) rest is = clusters_end true k node m text ws rest is

pub tokens_end : (k : ℕ) (items : List Item) → TextsEnd false (tokens_of k items)
tokens_end k [] = tt
tokens_end k (item.Text node text m widths ∷ xs) = clusters_end false k node m text widths (tokens_of (k + 1) xs) (tokens_end (k + 1) xs)
tokens_end k (item.Atomic n m ∷ xs) = (refl, tokens_end (k + 1) xs)
tokens_end k (item.Start n takes ∷ xs) = (refl, tokens_end (k + 1) xs)
tokens_end k (item.End n ∷ xs) = (refl, tokens_end (k + 1) xs)
tokens_end k (item.Float n ∷ xs) = (refl, tokens_end (k + 1) xs)
tokens_end k (item.Anchor n ∷ xs) = (refl, tokens_end (k + 1) xs)
