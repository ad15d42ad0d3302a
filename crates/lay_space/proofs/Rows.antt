-- White space of one text.
use Rattle.std.proofs.Common.{length, append_assoc, append-nil, subst, arith, ◌≡◌, ℕ, ◌==◌, List, [], ◌∷◌, ◌++◌, Bool, true, false, if◌then◌else◌, ◌∙◌, sym, ap, chars, encode_utf8_all, string_bytes, String, Global, Option, option_to_list}
use Rattle.std.specs.Option.{IfSome}
use Rattle.std.specs.Str.{IsUtf8}
use Rattle.std.proofs.lemmas.Str.{chars_past_char, IsUtf8-past_char, chars-nil, encodes-append}
use lib.Utf8.{encode}
use Rattle.lay_space.specs.declared.item.Mode.{Mode}
use Rattle.lay_space.specs.declared.collapsing.State.{State}
use Rattle.lay_space.specs.WhiteSpace.{runs_to_linefeed, is_blank, left_over, ends_in_space}

-- `kept` and what the state leaves of `rest` make up what is left of the text
pub record IsLeft (m : Mode) (text : List ℕ) (before : Bool) (rest : List ℕ) (kept : String Global) (state : State) : Type 0 where
  pub utf8 : IsUtf8 rest
  pub left : string_bytes kept ++ encode_utf8_all (left_over m state.after_linefeed state.after_space (chars rest)) ≡ encode_utf8_all (left_over m false before (chars text))
  pub space : ends_in_space state.after_space (left_over m state.after_linefeed state.after_space (chars rest)) ≡ ends_in_space before (left_over m false before (chars text))
  pub row : IfSome state.row (λ b. runs_to_linefeed (chars rest) ≡ b)

pub chars_none : (rest : List ℕ) → length rest ≡ 0 → chars rest ≡ []
chars_none [] e = chars-nil
chars_none (b ∷ bs) e = absurd (omega (arith, e))

pub left_more : (m : Mode) (text : List ℕ) (before : Bool) (rest after : List ℕ) (kept kept' : String Global) (state next : State) (c : ℕ) (k : Option ℕ)
    → IsLeft m text before rest kept state → rest ≡ encode c ++ after
    → left_over m state.after_linefeed state.after_space (c ∷ chars after) ≡ option_to_list k ++ left_over m next.after_linefeed next.after_space (chars after)
    → ends_in_space state.after_space (left_over m state.after_linefeed state.after_space (c ∷ chars after)) ≡ ends_in_space next.after_space (left_over m next.after_linefeed next.after_space (chars after))
    → IfSome next.row (λ b. runs_to_linefeed (chars after) ≡ b)
    → string_bytes kept' ≡ string_bytes kept ++ encode_utf8_all (option_to_list k)
    → IsLeft m text before after kept' next
left_more m text before rest after kept kept' state next c k is e left space row put =
    let spelled : chars rest ≡ c ∷ chars after = chars_past_char rest after c is.utf8 e in
    record {
      utf8 = IsUtf8-past_char rest after c is.utf8 e;
      left = ap (λ bs. bs ++ encode_utf8_all (left_over m next.after_linefeed next.after_space (chars after))) put
          ∙ append_assoc (string_bytes kept) _ _
          ∙ ap (λ bs. string_bytes kept ++ bs) (sym (encodes-append (option_to_list k) (left_over m next.after_linefeed next.after_space (chars after))) ∙ ap encode_utf8_all (sym left))
          ∙ ap (λ cs. string_bytes kept ++ encode_utf8_all (left_over m state.after_linefeed state.after_space cs)) (sym spelled) ∙ is.left;
      space = sym space ∙ ap (λ cs. ends_in_space state.after_space (left_over m state.after_linefeed state.after_space cs)) (sym spelled) ∙ is.space;
      row = row;
    }

pub row_next : (rest after : List ℕ) (c : ℕ) (row : Option Bool) → IsUtf8 rest → rest ≡ encode c ++ after → IfSome row (λ b. runs_to_linefeed (chars rest) ≡ b) → IfSome row (λ b. runs_to_linefeed (c ∷ chars after) ≡ b)
row_next rest after c row utf8 e is = subst (λ cs. IfSome row (λ b. runs_to_linefeed cs ≡ b)) (chars_past_char rest after c utf8 e) is

-- nothing is left
pub left_all : (m : Mode) (text : List ℕ) (before : Bool) (rest : List ℕ) (kept : String Global) (state : State) → IsLeft m text before rest kept state → length rest ≡ 0
    → (string_bytes kept ≡ encode_utf8_all (left_over m false before (chars text))) × (state.after_space ≡ ends_in_space before (left_over m false before (chars text)))
left_all m text before rest kept state is e =
    let none : chars rest ≡ [] = chars_none rest e in (
      sym (append-nil (string_bytes kept)) ∙ ap (λ cs. string_bytes kept ++ encode_utf8_all (left_over m state.after_linefeed state.after_space cs)) (sym none) ∙ is.left,
      ap (λ cs. ends_in_space state.after_space (left_over m state.after_linefeed state.after_space cs)) (sym none) ∙ is.space,
    )

pub runs_on : (all cs : List ℕ) (c : ℕ) (w : Bool) → all ≡ c ∷ cs → true ≡ is_blank c → runs_to_linefeed all ≡ w → runs_to_linefeed cs ≡ w
runs_on all cs c w e t is = ap (λ b. if b then runs_to_linefeed cs else c == 10) t ∙ sym (ap runs_to_linefeed e) ∙ is

pub runs_stop : (all cs : List ℕ) (c : ℕ) (w : Bool) → all ≡ c ∷ cs → false ≡ is_blank c → runs_to_linefeed all ≡ w → (c == 10) ≡ w
runs_stop all cs c w e t is = ap (λ b. if b then runs_to_linefeed cs else c == 10) t ∙ sym (ap runs_to_linefeed e) ∙ is
