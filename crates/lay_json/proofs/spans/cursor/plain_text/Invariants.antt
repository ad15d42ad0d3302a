use Rattle.std.proofs.Common.{◌≡◌, take, drop}
use Rattle.json.specs.Text.{content, plain, prepend}
use Rattle.json.specs.Lex.{in_string, lex}
use Rattle.lay_json.proofs.spans.cursor.plain_text.Given as goal

abbrev pub invariant-loop-byte : goal.invariant-loop-byte
invariant-loop-byte l = record {
  at : l.at ≡ l.byte-index;
  content : content plain l.text ≡ prepend (take l.byte-index l.text) (content plain (drop l.byte-index l.text));
  passed : lex in_string l.text ≡ lex in_string (drop l.byte-index l.text);
}
