use Rattle.std.proofs.Common.{rules, ◌∙◌, ◌≡◌, map, string_bytes, sym, subst, true, false, [], refl, inl, inr}
use Rattle.std.specs.List.{list_any}
use Rattle.clap.specs.Words.{fault_of, is_simple, is_simple_and_free, subcommand_of, subcommand_rows_of, kind_of, HasKind}
use Rattle.clap.specs.declared.error.kind.ErrorKind.TheVariants as kind
use Rattle.lay_words.specs.Grammar.{is_odd}
use Rattle.lay_words.proofs.Found.{is_ours_simple, refused_form, taken_form}
use Rattle.lay_words.proofs.reading.read_words.Goals as goal

pub returns-in-Ok : goal.returns-in-Ok
returns-in-Ok c =
    let ws = map string_bytes c.args.words.now in
    let odd : list_any is_odd ws ≡ false = sym c.any_odd.ensures ∙ c.if-any_odd.false in
    let app = c.in_ok-command.ensures in
    let none = subst (λ a. is_simple_and_free a ≡ true → fault_of a ws ≡ []) app c.in-Ok.ensures.kinds in
    let found = subst (λ a. is_simple a ≡ true → subcommand_rows_of c.in-Ok.matches ≡ subcommand_of a ws) app (λ s. (c.in-Ok.ensures.matches s).1) in
    c.form_found.ensures ∙ taken_form ws (subcommand_rows_of c.in-Ok.matches) odd (none is_ours_simple) (found refl)

pub returns : goal.returns
returns c =
    let ws = map string_bytes c.args.words.now in
    let odd : list_any is_odd ws ≡ false = sym c.any_odd.ensures ∙ c.if-any_odd.false in
    let kinds = subst (λ a. is_simple_and_free a ≡ true → HasKind (fault_of a ws) c.in-Err.error) c.in_ok-command.ensures c.in-Err.ensures.kinds in
    let other : kind_of c.in-Err.error ≡ kind.OutOfMemory → ⊥ = search rules in
    refused_form ws odd (λ e. elim (subst (λ f. HasKind f c.in-Err.error) e (kinds is_ours_simple)) [ inl m ↦ other m | inr a ↦ a ])
