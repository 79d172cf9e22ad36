-- The contents of an answer.
use Rattle.std.specs.Prelude.{ℕ}
use Rattle.sf_reply.specs.declared.reply.Reply.{Reply}

pub record AnswerView : Type 0 where
  pub number : ℕ
  pub session : ℕ
  pub reply : Reply
