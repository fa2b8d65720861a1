use Rattle.std.proofs.Common.{sym}
use Rattle.text.proofs.Cursors.{taken, other, past}
use Rattle.text.proofs.Cursor.skip.Goals.{else-self-via-then-self+else-self-b, else-self-via-else-self}
use Rattle.text.proofs.Cursor.skip.Goals as goal

pub returns-then-self-b : goal.returns-then-self-b
returns-then-self-b c = sym (taken c.args.b c.args.self c.if-self.true c.if-self-b.true)

pub returns : goal.returns
returns c = elim c.else-self.branch [
  | else-self-via-then-self+else-self-b w ↦ sym (other c.args.b c.args.self w.if-self.true w.if-self-b.false)
  | else-self-via-else-self w ↦ sym (past c.args.b c.args.self w.if-self.false)
]
