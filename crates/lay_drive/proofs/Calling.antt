-- The calls of a pass, one by one.
use Rattle.std.proofs.Common.{◌≡◌, ℕ, suc, ◌+◌, ◌<◌, ◌≤◌, List, [], ◌∷◌, ◌++◌, length, refl, sym, ap, ◌∙◌, arith, append_assoc, append-nil, length-append}
use Rattle.lay_history.specs.declared.edits.command.Cmd.{Cmd}
use Rattle.lay_history.specs.declared.edits.history.Entry.{Entry}
use Rattle.lay_history.specs.Calls.{Call, call_in, calls, script_calls}
use Rattle.lay_history.proofs.OneMore.{calls_more}
use Rattle.lay_board.specs.Passes.{Calls, PassOf}
use Rattle.lay_drive.specs.Runs.{AreCalled, IsCalled}

abbrev one_call : ℕ → ℕ → Cmd → Call
one_call editor index c = record { editor = editor; index = index; command = c }

script_more : (editor index : ℕ) (cs : List Cmd) (c : Cmd) → script_calls editor index (cs ++ c ∷ []) ≡ script_calls editor index cs ++ one_call editor (index + length cs) c ∷ []
script_more editor index [] c = ap (λ n. one_call editor n c ∷ []) (none index)
  where
    none : (n : ℕ) → n ≡ n + 0
    none n = omega arith
script_more editor index (d ∷ cs) c =
    ap (λ l. one_call editor index d ∷ l) (script_more editor (index + 1) cs c ∙ ap (λ n. script_calls editor (index + 1) cs ++ one_call editor n c ∷ []) (further index (length cs)))
  where
    further : (n m : ℕ) → n + 1 + m ≡ n + suc m
    further n m = omega arith

pub none_called : (p : PassOf) → AreCalled p [] p
none_called p = record {
  table = refl;
  number = refl;
  left = omega arith;
  length_is = omega arith;
  own = sym (append-nil (calls p.knows.own));
}

pub one_more : (p q r : PassOf) (cs : List Cmd) (c : Cmd) → AreCalled p cs q → IsCalled q c r → AreCalled p (cs ++ c ∷ []) r
one_more p q r cs c so is = record {
  table = is.table ∙ so.table;
  number = is.number ∙ so.number;
  left = let a = is.left in let b = so.left in let n = length-append cs (c ∷ []) in omega (arith, a, b, n);
  length_is =
      let a = ap length is.own in let m = length-append q.knows.own (is.entry ∷ []) in let b = so.length_is in let n = length-append cs (c ∷ []) in omega (arith, a, m, b, n);
  own = ap calls is.own ∙ calls_more q.knows.own is.entry ∙ ap (λ l. calls q.knows.own ++ l) is.answers
      ∙ ap (λ l. l ++ one_call q.knows.number (length q.knows.own) c ∷ []) so.own
      ∙ append_assoc (calls p.knows.own) (script_calls p.knows.number (length p.knows.own) cs) (one_call q.knows.number (length q.knows.own) c ∷ [])
      ∙ ap (λ l. calls p.knows.own ++ l) (ap (λ n. script_calls p.knows.number (length p.knows.own) cs ++ one_call n (length q.knows.own) c ∷ []) so.number
      ∙ ap (λ n. script_calls p.knows.number (length p.knows.own) cs ++ one_call p.knows.number n c ∷ []) so.length_is
      ∙ sym (script_more p.knows.number (length p.knows.own) cs c));
}

-- a call of the engine is one of the pass
pub is_called : (p q : PassOf) (c : Cmd) (e : Entry) → q.table ≡ p.table → Calls p.knows q.knows e
    → call_in e ≡ one_call p.knows.number (length p.knows.own) c ∷ [] → IsCalled p c q
is_called p q c e table is answers = record { table = table; number = is.number; left = is.left; entry = e; own = is.own; answers = answers }

-- where commands of a script are left, so are calls
pub some_left : (p q : PassOf) (script done rest : List Cmd) (c : Cmd) → length script ≤ p.knows.left → done ++ c ∷ rest ≡ script → AreCalled p done q → 0 < q.knows.left
some_left p q script done rest c few is so =
    let n = ap length is in let m = length-append done (c ∷ rest) in let l = so.left in omega (arith, n, m, l, few)
