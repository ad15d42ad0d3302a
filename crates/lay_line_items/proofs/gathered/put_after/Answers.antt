use Rattle.std.proofs.Common.{sym}
use Rattle.lay_line_items.proofs.PlainWords.{put_alone}
use Rattle.lay_line_items.proofs.gathered.put_after.Goals as goal

pub returns-then-stands_alone : goal.returns-then-stands_alone
returns-then-stands_alone c =
    put_alone c.args.out.now.items c.put_before.new.out.items c.put_width.new.widths.items _ c.args.before c.args.width _ _ (rw c.next_place.ensures at (sym c.if-stands_alone.ensures))
    c.in_ok-put_before.ensures c.in_ok-put_width.ensures
