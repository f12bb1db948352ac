use Rattle.std.proofs.Common.{◌++◌, codes}
use Rattle.std.specs.Fmt.{HasWritten, IsPlainFormatter}
use Rattle.amount.specs.Words.{members_text}
use Rattle.amount.proofs.members.MembersDisplay.fmt.Given as goal

-- what is written is the brace and the members so far
abbrev pub invariant-loop-m : goal.invariant-loop-m
invariant-loop-m g l =
    IsPlainFormatter l.fn.f → HasWritten g.W.Write.write_str_gives l.fn.f (codes "{" ++ members_text l.m-counter l.self.bits) l.f
