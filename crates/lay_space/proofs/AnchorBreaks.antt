-- Breaks stand where they stand without anchors.
use Rattle.std.proofs.Common.{◌≡◌, ℕ, ◌++◌, Bool, true, false, if◌then◌else◌, ◌&&◌, ◌||◌, not, List, [], ◌∷◌, Option, Some, None, refl, ap, ◌∙◌, append-nil}
use Rattle.std.proofs.lemmas.Bool.{true≢false}
use Rattle.std.proofs.Math.Bool.{or-false}
use Rattle.lay_space.specs.declared.tokens.ClusterKind.{ClusterKind}
use Rattle.lay_space.specs.declared.tokens.ClusterKind.TheVariants.{CollapsibleSpace, PreservedSpace, Linefeed, Tab, ZeroWidthSpace, Other}
use Rattle.lay_space.specs.declared.tokens.Cluster.{Cluster}
use Rattle.lay_space.specs.declared.tokens.Token.{Token}
use Rattle.lay_space.specs.declared.tokens.Token.TheVariants as token
use Rattle.lay_space.specs.declared.breaks.Entry.{Entry}
use Rattle.lay_space.specs.declared.breaks.Entry.TheVariants.{Content, Break}
use Rattle.lay_space.specs.Modes.{wraps}
use Rattle.lay_space.specs.Breaks.{broken, front_break, back_break, break_after_cluster, leads_to_atomic, solid_after, space_follows, settled, flushed, entries_of}

-- a cluster of the same bytes where its item has another place
abbrev pub moved : (ℕ → ℕ) → Cluster → Cluster
moved f c = record { item = f c.item; node = c.node; mode = c.mode; kind = c.kind; from = c.from; to = c.to; width = c.width }

-- the tokens but for anchors
abbrev pub kept : (ℕ → ℕ) → List Token → List Token
kept f [] = []
kept f (token.Cluster c ∷ xs) = token.Cluster (moved f c) ∷ kept f xs
kept f (token.TextEnd ∷ xs) = token.TextEnd ∷ kept f xs
kept f (token.Atomic n m ∷ xs) = token.Atomic n m ∷ kept f xs
kept f (token.Start n takes ∷ xs) = token.Start n takes ∷ kept f xs
kept f (token.End n ∷ xs) = token.End n ∷ kept f xs
kept f (token.Float n ∷ xs) = token.Float n ∷ kept f xs
kept f (token.Anchor n ∷ xs) = kept f xs

-- the entries but for anchors
abbrev pub kept_entries : (ℕ → ℕ) → List Entry → List Entry
kept_entries f [] = []
kept_entries f (Break g ∷ es) = Break g ∷ kept_entries f es
kept_entries f (Content (token.Cluster c) ∷ es) = Content (token.Cluster (moved f c)) ∷ kept_entries f es
kept_entries f (Content token.TextEnd ∷ es) = Content token.TextEnd ∷ kept_entries f es
kept_entries f (Content (token.Atomic n m) ∷ es) = Content (token.Atomic n m) ∷ kept_entries f es
kept_entries f (Content (token.Start n takes) ∷ es) = Content (token.Start n takes) ∷ kept_entries f es
kept_entries f (Content (token.End n) ∷ es) = Content (token.End n) ∷ kept_entries f es
kept_entries f (Content (token.Float n) ∷ es) = Content (token.Float n) ∷ kept_entries f es
kept_entries f (Content (token.Anchor n) ∷ es) = kept_entries f es

-- Behind a cluster (`inside`) stands another one, or the end of its text.
abbrev pub TextsEnd : Bool → List Token → Type 0
TextsEnd inside [] = Unit {0}
TextsEnd inside (token.Cluster c ∷ xs) = TextsEnd true xs
TextsEnd inside (token.TextEnd ∷ xs) = TextsEnd false xs
TextsEnd inside (token.Atomic n m ∷ xs) = (inside ≡ false) × TextsEnd false xs
TextsEnd inside (token.Start n takes ∷ xs) = (inside ≡ false) × TextsEnd false xs
TextsEnd inside (token.End n ∷ xs) = (inside ≡ false) × TextsEnd false xs
TextsEnd inside (token.Float n ∷ xs) = (inside ≡ false) × TextsEnd false xs
TextsEnd inside (token.Anchor n ∷ xs) = (inside ≡ false) × TextsEnd false xs

kept_append : (f : ℕ → ℕ) (a b : List Entry) → kept_entries f (a ++ b) ≡ kept_entries f a ++ kept_entries f b
kept_append f [] b = refl
kept_append f (Break g ∷ a) b = ap (λ es. Break g ∷ es) (kept_append f a b)
kept_append f (Content (token.Cluster c) ∷ a) b = ap (λ es. Content (token.Cluster (moved f c)) ∷ es) (kept_append f a b)
kept_append f (Content token.TextEnd ∷ a) b = ap (λ es. Content token.TextEnd ∷ es) (kept_append f a b)
kept_append f (Content (token.Atomic n m) ∷ a) b = ap (λ es. Content (token.Atomic n m) ∷ es) (kept_append f a b)
kept_append f (Content (token.Start n takes) ∷ a) b = ap (λ es. Content (token.Start n takes) ∷ es) (kept_append f a b)
kept_append f (Content (token.End n) ∷ a) b = ap (λ es. Content (token.End n) ∷ es) (kept_append f a b)
kept_append f (Content (token.Float n) ∷ a) b = ap (λ es. Content (token.Float n) ∷ es) (kept_append f a b)
kept_append f (Content (token.Anchor n) ∷ a) b = kept_append f a b

-- a token that stays, perhaps with another place of its item
abbrev pub Stays : (ℕ → ℕ) → Token → Token → Type 0
Stays f x y = (es : List Entry) → kept_entries f (Content x ∷ es) ≡ Content y ∷ kept_entries f es

around : (f : ℕ → ℕ) (here : Bool) (after : Option Bool) (x y : Token) (es : List Entry) → Stays f x y
    → kept_entries f (front_break here ++ Content x ∷ back_break after ++ es) ≡ front_break here ++ Content y ∷ back_break after ++ kept_entries f es
around f true None x y es stays = ap (λ a. Break false ∷ a) (stays es)
around f true (Some g) x y es stays = ap (λ a. Break false ∷ a) (stays (Break g ∷ es))
around f false None x y es stays = stays es
around f false (Some g) x y es stays = stays (Break g ∷ es)

space_kept : (f : ℕ → ℕ) (xs : List Token) → TextsEnd true xs → space_follows xs ≡ space_follows (kept f xs)
space_kept f [] is = refl
space_kept f (token.Cluster c ∷ xs) is = refl
space_kept f (token.TextEnd ∷ xs) is = refl
space_kept f (token.Atomic n m ∷ xs) is = refl
space_kept f (token.Start n takes ∷ xs) is = refl
space_kept f (token.End n ∷ xs) is = refl
space_kept f (token.Float n ∷ xs) is = refl
space_kept f (token.Anchor n ∷ xs) is = absurd (true≢false is.0)

after_kept : (f : ℕ → ℕ) (k : ClusterKind) (w : Bool) (xs : List Token) → TextsEnd true xs → break_after_cluster k w xs ≡ break_after_cluster k w (kept f xs)
after_kept f CollapsibleSpace w xs is = refl
after_kept f PreservedSpace w xs is = ap (λ s. if w && not s then Some false else None) (space_kept f xs is)
after_kept f Linefeed w xs is = refl
after_kept f Tab w xs is = refl
after_kept f ZeroWidthSpace w xs is = refl
after_kept f Other w xs is = refl

leads_kept : (f : ℕ → ℕ) (xs : List Token) → leads_to_atomic xs ≡ leads_to_atomic (kept f xs)
leads_kept f [] = refl
leads_kept f (token.Cluster c ∷ xs) = refl
leads_kept f (token.TextEnd ∷ xs) = leads_kept f xs
leads_kept f (token.Atomic n m ∷ xs) = refl
leads_kept f (token.Start n takes ∷ xs) = leads_kept f xs
leads_kept f (token.End n ∷ xs) = refl
leads_kept f (token.Float n ∷ xs) = leads_kept f xs
leads_kept f (token.Anchor n ∷ xs) = leads_kept f xs

broken_kept : (f : ℕ → ℕ) (inside solid : Bool) (xs : List Token) → TextsEnd inside xs → kept_entries f (broken solid xs) ≡ broken solid (kept f xs)
broken_kept f inside solid [] is = refl
broken_kept f inside solid (token.Cluster c ∷ xs) is =
    let after = break_after_cluster c.kind (wraps c.mode) xs in
    let now = (solid && not false) || true in
    around f (solid && false) after (token.Cluster c) (token.Cluster (moved f c)) (broken (solid_after after now) xs) (λ es. refl)
    ∙ ap (λ es. front_break (solid && false) ++ Content (token.Cluster (moved f c)) ∷ back_break after ++ es) (broken_kept f true (solid_after after now) xs is)
    ∙ ap (λ a. front_break (solid && false) ++ Content (token.Cluster (moved f c)) ∷ back_break a ++ broken (solid_after a now) (kept f xs)) (after_kept f c.kind (wraps c.mode) xs is)
broken_kept f inside solid (token.TextEnd ∷ xs) is =
    let now = (solid && not false) || false in
    around f (solid && false) None token.TextEnd token.TextEnd (broken now xs) (λ es. refl)
    ∙ ap (λ es. front_break (solid && false) ++ Content token.TextEnd ∷ back_break None ++ es) (broken_kept f false now xs is)
broken_kept f inside solid (token.Atomic n m ∷ xs) is =
    let after = if wraps m then Some false else None in
    let now = (solid && not (wraps m)) || true in
    around f (solid && wraps m) after (token.Atomic n m) (token.Atomic n m) (broken (solid_after after now) xs) (λ es. refl)
    ∙ ap (λ es. front_break (solid && wraps m) ++ Content (token.Atomic n m) ∷ back_break after ++ es) (broken_kept f false (solid_after after now) xs is.1)
broken_kept f inside solid (token.Start n takes ∷ xs) is =
    let now = (solid && not (leads_to_atomic xs)) || false in
    around f (solid && leads_to_atomic xs) None (token.Start n takes) (token.Start n takes) (broken now xs) (λ es. refl)
    ∙ ap (λ es. front_break (solid && leads_to_atomic xs) ++ Content (token.Start n takes) ∷ back_break None ++ es) (broken_kept f false now xs is.1)
    ∙ ap (λ b. front_break (solid && b) ++ Content (token.Start n takes) ∷ back_break None ++ broken ((solid && not b) || false) (kept f xs)) (leads_kept f xs)
broken_kept f inside solid (token.End n ∷ xs) is =
    let now = (solid && not false) || false in
    around f (solid && false) None (token.End n) (token.End n) (broken now xs) (λ es. refl)
    ∙ ap (λ es. front_break (solid && false) ++ Content (token.End n) ∷ back_break None ++ es) (broken_kept f false now xs is.1)
broken_kept f inside solid (token.Float n ∷ xs) is =
    let now = (solid && not false) || false in
    around f (solid && false) None (token.Float n) (token.Float n) (broken now xs) (λ es. refl)
    ∙ ap (λ es. front_break (solid && false) ++ Content (token.Float n) ∷ back_break None ++ es) (broken_kept f false now xs is.1)
broken_kept f inside true (token.Anchor n ∷ xs) is = broken_kept f false true xs is.1
broken_kept f inside false (token.Anchor n ∷ xs) is = broken_kept f false false xs is.1

-- what settles is the same without anchors, with no break to go back behind, and with one
pub record SettledKept (f : ℕ → ℕ) (es : List Entry) : Type 0 where
  pub none : kept_entries f (settled None false [] es) ≡ settled None false [] (kept_entries f es)
  pub some : (g started : Bool) (held : List Entry) → kept_entries f (settled (Some g) started held es) ≡ settled (Some g) started (kept_entries f held) (kept_entries f es)

flush_kept : (f : ℕ → ℕ) (g : Bool) (held : List Entry) (x y : Token) (es : List Entry) → Stays f x y → SettledKept f es
    → kept_entries f (flushed (Some g) held ++ Content x ∷ settled None false [] es) ≡ flushed (Some g) (kept_entries f held) ++ Content y ∷ settled None false [] (kept_entries f es)
flush_kept f g held x y es stays rest =
    kept_append f (flushed (Some g) held) (Content x ∷ settled None false [] es)
    ∙ ap (λ a. flushed (Some g) (kept_entries f held) ++ a) (stays (settled None false [] es) ∙ ap (λ a. Content y ∷ a) rest.none)

wait_kept : (f : ℕ → ℕ) (g started : Bool) (held : List Entry) (x y : Token) (es : List Entry) → Stays f x y → SettledKept f es
    → kept_entries f (settled (Some g) started (held ++ Content x ∷ []) es) ≡ settled (Some g) started (kept_entries f held ++ Content y ∷ []) (kept_entries f es)
wait_kept f g started held x y es stays rest =
    rest.some g started (held ++ Content x ∷ [])
    ∙ ap (λ h. settled (Some g) started h (kept_entries f es)) (kept_append f held (Content x ∷ []) ∙ ap (λ a. kept_entries f held ++ a) (stays []))

abbrev pub One : (ℕ → ℕ) → Token → List Entry → Type 0
One f x es = (g started : Bool) (held : List Entry) → kept_entries f (settled (Some g) started held (Content x ∷ es)) ≡ settled (Some g) started (kept_entries f held) (kept_entries f (Content x ∷ es))

text_end_kept : (f : ℕ → ℕ) (es : List Entry) → SettledKept f es → One f token.TextEnd es
text_end_kept f es rest g true held = wait_kept f g true held token.TextEnd token.TextEnd es (λ a. refl) rest
text_end_kept f es rest g false held = ap (λ a. Content token.TextEnd ∷ a) (rest.some g false held)

end_kept : (f : ℕ → ℕ) (n : ℕ) (es : List Entry) → SettledKept f es → One f (token.End n) es
end_kept f n es rest g true held = wait_kept f g true held (token.End n) (token.End n) es (λ a. refl) rest
end_kept f n es rest g false held = ap (λ a. Content (token.End n) ∷ a) (rest.some g false held)

start_kept : (f : ℕ → ℕ) (n : ℕ) (takes : Bool) (es : List Entry) → SettledKept f es → One f (token.Start n takes) es
start_kept f n true es rest g started held = flush_kept f g held (token.Start n true) (token.Start n true) es (λ a. refl) rest
start_kept f n false es rest g started held = wait_kept f g (started || true) held (token.Start n false) (token.Start n false) es (λ a. refl) rest

float_kept : (f : ℕ → ℕ) (n : ℕ) (es : List Entry) → SettledKept f es → One f (token.Float n) es
float_kept f n es rest true started held = wait_kept f true (started || false) held (token.Float n) (token.Float n) es (λ a. refl) rest
float_kept f n es rest false started held = ap (λ a. Content (token.Float n) ∷ a) (rest.some false started held)

anchor_gone : (f : ℕ → ℕ) (n : ℕ) (es : List Entry) → SettledKept f es → One f (token.Anchor n) es
anchor_gone f n es rest true started held =
    rest.some true (started || false) (held ++ Content (token.Anchor n) ∷ [])
    ∙ ap (λ h. settled (Some true) (started || false) h (kept_entries f es)) (kept_append f held (Content (token.Anchor n) ∷ []) ∙ append-nil (kept_entries f held))
    ∙ ap (λ b. settled (Some true) b (kept_entries f held) (kept_entries f es)) (or-false started)
anchor_gone f n es rest false started held = rest.some false started held

settled_kept : (f : ℕ → ℕ) (es : List Entry) → SettledKept f es
settled_kept f [] = record { none = refl; some = λ g started held. refl }
settled_kept f (Break b ∷ es) =
    let rest = settled_kept f es in
    record {
      none = rest.some b false [];
      some = λ g started held. kept_append f (flushed (Some g) held) (settled (Some b) false [] es) ∙ ap (λ a. flushed (Some g) (kept_entries f held) ++ a) (rest.some b false []);
    }
settled_kept f (Content (token.Cluster c) ∷ es) =
    let rest = settled_kept f es in
    record {
      none = ap (λ a. Content (token.Cluster (moved f c)) ∷ a) rest.none;
      some = λ g started held. flush_kept f g held (token.Cluster c) (token.Cluster (moved f c)) es (λ a. refl) rest;
    }
settled_kept f (Content token.TextEnd ∷ es) =
    let rest = settled_kept f es in
    record { none = ap (λ a. Content token.TextEnd ∷ a) rest.none; some = text_end_kept f es rest }
settled_kept f (Content (token.Atomic n m) ∷ es) =
    let rest = settled_kept f es in
    record {
      none = ap (λ a. Content (token.Atomic n m) ∷ a) rest.none;
      some = λ g started held. flush_kept f g held (token.Atomic n m) (token.Atomic n m) es (λ a. refl) rest;
    }
settled_kept f (Content (token.Start n takes) ∷ es) =
    let rest = settled_kept f es in
    record { none = ap (λ a. Content (token.Start n takes) ∷ a) rest.none; some = start_kept f n takes es rest }
settled_kept f (Content (token.End n) ∷ es) =
    let rest = settled_kept f es in
    record { none = ap (λ a. Content (token.End n) ∷ a) rest.none; some = end_kept f n es rest }
settled_kept f (Content (token.Float n) ∷ es) =
    let rest = settled_kept f es in
    record { none = ap (λ a. Content (token.Float n) ∷ a) rest.none; some = float_kept f n es rest }
settled_kept f (Content (token.Anchor n) ∷ es) =
    let rest = settled_kept f es in
    record { none = rest.none; some = anchor_gone f n es rest }

pub entries_kept : (f : ℕ → ℕ) (xs : List Token) → TextsEnd false xs → kept_entries f (entries_of xs) ≡ entries_of (kept f xs)
entries_kept f xs is = (settled_kept f (broken false xs)).none ∙ ap (λ es. settled None false [] es) (broken_kept f false false xs is)
