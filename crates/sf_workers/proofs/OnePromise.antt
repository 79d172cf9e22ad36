-- The promises of an engine and of a session alone, as conversations in a history.
use Rattle.std.proofs.Common.{ℕ, List, [], append-nil, sym}
use Rattle.sf_engine.specs.Promise.{Entry, linearization, of_session, IsKnown, IsUnsent, IsKept}
use Rattle.sf_session.specs.Conversation.{IsConversation}
use Rattle.sf_workers.specs.Conversations.{IsConversationIn}

pub of_engine : (log : List Entry) → IsKept log → (session : ℕ) → IsKnown log session
    → (output : List ℕ) → (unsent : IsUnsent (of_session session log).wrote (of_session session log).sent output) → IsConversationIn (linearization log) session (of_session session log).fed unsent.sent
of_engine log kept session known output unsent =
    let a = kept.linearizable.answered log [] (sym (append-nil log)) session known in
    record {
      bodies = a.bodies;
      rest = a.rest;
      answers = (of_session session log).wrote;
      due = a.due;
      unsent = output;
      are_bodies = a.are_bodies;
      read = a.fed;
      asked = a.asked;
      written = unsent.packets;
      calls = a.calls;
    }

pub of_one_alone : (input moments output : List ℕ) → (talk : IsConversation input moments output) → IsConversationIn talk.history talk.session input output
of_one_alone input moments output talk = record {
  bodies = talk.bodies;
  rest = talk.rest;
  answers = talk.answers;
  due = talk.due;
  unsent = talk.unsent;
  are_bodies = talk.are_bodies;
  read = talk.read;
  asked = talk.asked;
  written = talk.written;
  calls = talk.calls;
}
