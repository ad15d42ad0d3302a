-- How the frontmost of the nodes that wait changes as the walk comes to one node more.
use Rattle.std.proofs.Common.{◌≡◌, ℕ, ◌+◌, ◌<◌, ◌≤◌, Bool, true, false, ◌||◌, refl, sym, ap, ◌∙◌, subst, arith, ◌⊎◌, inl, inr, if◌then◌else◌}
use Rattle.std.proofs.lemmas.Bool.{cases_eq, cases_Bool, le-ltb}
use Rattle.std.specs.Prelude.{nat_lt}
use Rattle.lay_hit.specs.Pages.{Page}
use Rattle.lay_hit.specs.OrderedPages.{IsOrdered}
use Rattle.lay_hit.specs.Fronts.{in_front, IsFrontmost, passed}
use Rattle.lay_hit.specs.Waiting.{Waits, waits_at}
use Rattle.lay_hit.proofs.Frontmost.{also, none, single, unless, joined, in_front-none}
use Rattle.lay_hit.proofs.Ways.{way_goes, way_stays, way_begins}

pub no_both : {b : Bool} → b ≡ true → b ≡ false → ⊥
no_both on off = cc

module _ (p : Page) (o : IsOrdered p) (counts ends : ℕ → Bool) (root : ends 0 ≡ true) where
  abbrev waiting : ℕ → ℕ → ℕ → Type 0
  waiting n g k = Waits p counts ends n g k

  stay_where : (n k : ℕ) → (waits_at p ends (n + 1) k ≡ n → ends n ≡ true) → waits_at p ends n k ≡ waits_at p ends (n + 1) k
  stay_where n k closed = way_stays ends p.parent root o.before n k closed

  -- a node that the walk has come to before, or this one
  earlier : (n k : ℕ) → n ≤ k → (k ≡ n → ⊥) → n + 1 ≤ k
  earlier n k low other = omega (arith, low, other)

  moved_back : (n g k : ℕ) → (waits_at p ends (n + 1) k ≡ n → ends n ≡ true) → n ≤ k → waiting n g k → (k ≡ n → ⊥) → waiting (n + 1) g k
  moved_back n g k closed low w other = record {
    walked = earlier n k w.walked other;
    within = w.within;
    counted = w.counted;
    place = sym (stay_where n k closed) ∙ w.place;
  }

  moved_on : (n g k : ℕ) → (waits_at p ends (n + 1) k ≡ n → ends n ≡ true) → waiting (n + 1) g k → waiting n g k
  moved_on n g k closed w = record {
    walked = (let l = w.walked in omega (arith, l));
    within = w.within;
    counted = w.counted;
    place = stay_where n k closed ∙ w.place;
  }

  module _ (n : ℕ) (some : 0 < n) (within : n < p.count) where
    -- a node that waited at this one, whose way doesn't end here, waits at its parent
    goes_to : (k : ℕ) → ends n ≡ false → waits_at p ends (n + 1) k ≡ n → waits_at p ends n k ≡ p.parent n
    goes_to k through e = way_goes ends p.parent root o.before n k some through e

    begins : waits_at p ends n n ≡ p.parent n
    begins = way_begins ends p.parent root o.before n some

    -- at other nodes than the parent nothing changes
    module _ (g : ℕ) (other : p.parent n ≡ g → ⊥) (stands : (nat_lt g n || ends g) ≡ true) where
      closed_here : (k : ℕ) → waiting (n + 1) g k → waits_at p ends (n + 1) k ≡ n → ends n ≡ true
      closed_here k w is =
          let same : g ≡ n = sym w.place ∙ is in
          sym (ap (λ (b : Bool). b || ends n) (le-ltb n n (omega arith))) ∙ subst (λ (j : ℕ). (nat_lt j n || ends j) ≡ true) same stands

      not_this : (k : ℕ) → waiting n g k → k ≡ n → ⊥
      not_this k w same = other (sym begins ∙ ap (waits_at p ends n) (sym same) ∙ w.place)

      closed_there : (k : ℕ) → waiting n g k → waits_at p ends (n + 1) k ≡ n → ends n ≡ true
      closed_there k w is = elim (cases_Bool (ends n)) [
        | inl end ↦ end
        | inr through ↦ absurd (other (sym (goes_to k through is) ∙ w.place))
      ]

      pub same_there : (f : ℕ) → IsFrontmost p (waiting (n + 1) g) f → IsFrontmost p (waiting n g) f
      same_there f is = also p (waiting (n + 1) g) (waiting n g) f
          (λ k w. moved_on n g k (closed_here k w) w)
          (λ k w. moved_back n g k (closed_there k w) w.walked w (not_this k w)) is

    abbrev going : ℕ → Type 0
    going k = (ends n ≡ false) × waiting (n + 1) n k

    abbrev this : ℕ → Type 0
    this k = (k ≡ n) × (counts n ≡ true)

    abbrev coming : ℕ → Type 0
    coming k = going k ⊎ this k

    apart : (k : ℕ) → waiting n (p.parent n) k → waiting (n + 1) (p.parent n) k ⊎ coming k
    apart k w = elim (cases_eq k n) [
      | inl same ↦ inr (inr (same, subst (λ (j : ℕ). counts j ≡ true) same w.counted))
      | inr other ↦ elim (cases_eq (waits_at p ends (n + 1) k) n) [
        | inl here ↦ elim (cases_Bool (ends n)) [
          | inl end ↦ inl (moved_back n (p.parent n) k (λ e. end) w.walked w other)
          | inr through ↦ inr (inl (through, record { walked = earlier n k w.walked other; within = w.within; counted = w.counted; place = here }))
        ]
        | inr away ↦ inl (moved_back n (p.parent n) k (λ e. absurd (away e)) w.walked w other)
      ]
    ]

    left : (k : ℕ) → waiting (n + 1) (p.parent n) k → waiting n (p.parent n) k
    left k w = moved_on n (p.parent n) k (λ e. let less = o.before n some in let is = w.place in absurd (omega (arith, less, is, e))) w

    right : (k : ℕ) → coming k → waiting n (p.parent n) k
    right k c = elim c [
      | inl on ↦ record {
        walked = (let l = on.1.walked in omega (arith, l));
        within = on.1.within;
        counted = on.1.counted;
        place = goes_to k on.0 on.1.place;
      }
      | inr own ↦ record {
        walked = (let e = own.0 in omega (arith, e));
        within = subst (λ (j : ℕ). j < p.count) (sym own.0) within;
        counted = subst (λ (j : ℕ). counts j ≡ true) (sym own.0) own.1;
        place = ap (waits_at p ends n) own.0 ∙ begins;
      }
    ]

    -- to the parent come those whose way goes on, and this node
    pub comes_there : (f inner : ℕ) → IsFrontmost p (waiting (n + 1) (p.parent n)) f → IsFrontmost p (waiting (n + 1) n) inner → IsFrontmost p (waiting n (p.parent n)) (in_front p f (passed p (ends n) inner (counts n) n))
    comes_there f inner outer here =
        joined p (waiting (n + 1) (p.parent n)) coming (waiting n (p.parent n)) f (passed p (ends n) inner (counts n) n) outer
        (joined p going this coming (if ends n then 0 else inner) (if counts n then n else 0) (unless p (ends n) (waiting (n + 1) n) inner here) (single p (counts n) n some) (λ k c. c) (λ k c. inl c) (λ k c. inr c))
        apart left right

    -- where nothing waits here and the node doesn't count, nothing changes at all
    pub nothing_comes : (f : ℕ) → counts n ≡ false → IsFrontmost p (waiting (n + 1) (p.parent n)) f → IsFrontmost p (waiting (n + 1) n) 0 → IsFrontmost p (waiting n (p.parent n)) f
    nothing_comes f off outer here =
        subst (IsFrontmost p (waiting n (p.parent n))) (ap (in_front p f) nothing ∙ in_front-none p f) (comes_there f 0 outer here)
      where
        zero_either : (b : Bool) → ◌≡◌ {A = ℕ} (if b then 0 else 0) 0
        zero_either true = refl
        zero_either false = refl

        nothing : passed p (ends n) 0 (counts n) n ≡ 0
        nothing = ap (λ (b : Bool). in_front p (if ends n then 0 else 0) (if b then n else 0)) off ∙ ap (λ (j : ℕ). in_front p j 0) (zero_either (ends n))

  -- before the walk nothing waits
  pub none_yet : (n g : ℕ) → p.count ≤ n → IsFrontmost p (waiting n g) 0
  none_yet n g past = none p (waiting n g) (λ k w. let l = w.walked in let m = w.within in omega (arith, l, m, past))

  -- what is frontmost is one of the nodes
  pub within_page : (n g f : ℕ) → IsFrontmost p (waiting n g) f → f < p.count
  within_page n g f is = elim (cases_eq f 0) [
    | inl absent ↦ (let low = o.some in omega (arith, low, absent))
    | inr more ↦ (is.one (omega (arith, more))).within
  ]
