-- The invariant of the tree after each legal history.
use Rattle.std.proofs.Common.{◌≢◌, ◌<◌, ℕ, List, [], ◌∷◌, ◌++◌, refl, sym, ap, ◌∙◌, subst, append_assoc}
use Rattle.std.proofs.lemmas.List.{append-nil}
use Rattle.sf_reply.specs.declared.reply.Reply.{Reply}
use Rattle.sf_reply.specs.declared.reply.Reply.TheVariants as reply
use Rattle.sf_call.specs.declared.request.Request.{Request}
use Rattle.sf_call.specs.declared.record.Record.{Record}
use Rattle.sf_call.specs.declared.record.Record.TheVariants.{Did, Left}
use Rattle.sf_call.specs.Tree.{Tree, IsOrderedTree, empty_tree}
use Rattle.sf_call.specs.Changes.{Change, changed, done}
use Rattle.sf_call.specs.Allowed.{MayChange, AreAllowed, IsWellFormed}
use Rattle.sf_call.specs.Calls.{answer_to, apply}
use Rattle.sf_call.specs.Histories.{after, after_reply, replay, IsNewNumber, MayFollow, IsLegal, IsLegalAfter}
use Rattle.sf_call.proofs.Growth.{replay-push, front_new, last_other}
use Rattle.sf_call.proofs.Ordered.{ordered_changed, ordered_left}
use Rattle.sf_call.proofs.Labels.{IsLabelled, labelled_less, labelled_changed, labelled_left, labelled_empty}
use Rattle.sf_call.proofs.Founded.{IsFounded, is_directory_label, is_directory_is, founded_changed, founded_left, founded_empty}
use Rattle.sf_call.proofs.Used.{AllUsed, kept-used, used_changed, used_left, used_empty}
use Rattle.sf_call.proofs.Requests.{allowed}

-- the tree is in key order, free numbers are unused, its paths resolve to objects, and each object
-- has a link or an open handle
pub record IsSound (Free : ℕ → Type 0) (tree : Tree) : Type 0 where
  pub ordered : IsOrderedTree tree
  pub labelled : IsLabelled Free tree
  pub founded : IsFounded tree
  pub used : AllUsed tree

sound_changed : (Free : ℕ → Type 0) (number : ℕ) → ¬ Free number → (tree : Tree) (change : Change) → MayChange number tree change → IsSound Free tree → IsSound Free (changed tree change)
sound_changed Free number taken tree change may s = record {
  ordered = ordered_changed tree change s.ordered;
  labelled = labelled_changed Free number taken tree change may s.ordered s.labelled;
  founded = founded_changed number tree change may s.ordered s.founded;
  used = used_changed number tree change may s.used;
}

sound_done : (Free : ℕ → Type 0) (number : ℕ) → ¬ Free number → (tree : Tree) (changes : List Change) → AreAllowed number tree changes → IsSound Free tree → IsSound Free (done tree changes)
sound_done Free number taken tree [] may s = s
sound_done Free number taken tree (c ∷ cs) may s = sound_done Free number taken (changed tree c) cs may.1 (sound_changed Free number taken tree c may.0 s)

sound_reply : (Free : ℕ → Type 0) (tree next : Tree) (given : Reply) → IsSound Free tree → IsSound Free next → IsSound Free (after_reply tree next given)
sound_reply Free tree next reply.NoMemory s then = s
sound_reply Free tree next (reply.Status code) s then = then
sound_reply Free tree next (reply.Handle number) s then = then
sound_reply Free tree next (reply.Data bytes) s then = then
sound_reply Free tree next (reply.Names entries) s then = then
sound_reply Free tree next (reply.Attrs attrs) s then = then

-- the numbers that calls after a history may have
abbrev pub FreeAfter : List Record → ℕ → Type 0
FreeAfter history number = (0 < number) × IsNewNumber number history

sound_less : (history : List Record) (r : Record) (tree : Tree) → IsSound (FreeAfter history) tree → IsSound (FreeAfter (history ++ r ∷ [])) tree
sound_less history r tree s = record {
  ordered = s.ordered;
  labelled = labelled_less (FreeAfter history) (FreeAfter (history ++ r ∷ [])) tree (λ n free. (free.0, front_new n history r free.1)) s.labelled;
  founded = s.founded;
  used = s.used;
}

-- the changes of a request that may follow are allowed
pub allowed_by_sound : (Free : ℕ → Type 0) (tree : Tree) (session number moment : ℕ) (request : Request) → Free number → IsSound Free tree → AreAllowed number tree (answer_to tree session number moment request).changes
allowed_by_sound Free tree session number moment request free s =
    allowed tree number moment (s.labelled.unused number free) (s.labelled.no_object number free) (s.labelled.unopened number free) s.founded s.labelled.one_path session request

sound_after : (history : List Record) (tree : Tree) (r : Record) → MayFollow history r → IsSound (FreeAfter history) tree → IsSound (FreeAfter (history ++ r ∷ [])) (after tree r)
sound_after history tree (Did number session moment request given) may s =
    let r : Record = Did number session moment request given in
    let less = sound_less history r tree s in
    sound_reply (FreeAfter (history ++ r ∷ [])) tree (apply tree session number moment request).tree given less
    (sound_done (FreeAfter (history ++ r ∷ [])) number (λ free. last_other number history r free.1 refl) tree _
    (allowed_by_sound (FreeAfter history) tree session number moment request (may.above_zero, may.new_number) s) less)
sound_after history tree (Left session) may s =
    let less = sound_less history (Left session) tree s in
    record {
      ordered = ordered_left tree session less.ordered;
      labelled = labelled_left (FreeAfter (history ++ Left session ∷ [])) tree session less.labelled;
      founded = founded_left tree session less.founded;
      used = used_left tree session;
    }

sound_from : (before rs : List Record) → IsLegalAfter before rs → IsSound (FreeAfter before) (replay before) → IsSound (FreeAfter (before ++ rs)) (replay (before ++ rs))
unfolding IsLegalAfter
sound_from before [] legal s = subst (λ (history : List Record). IsSound (FreeAfter history) (replay history)) (sym (append-nil before)) s
sound_from before (r ∷ rs) legal s =
    subst (λ (history : List Record). IsSound (FreeAfter history) (replay history)) (append_assoc before (r ∷ []) rs)
    (sound_from (before ++ r ∷ []) rs legal.1
    (subst (λ (tree : Tree). IsSound (FreeAfter (before ++ r ∷ [])) tree) (sym (replay-push before r)) (sound_after before (replay before) r legal.0 s)))

sound_empty : IsSound (FreeAfter []) empty_tree
sound_empty = record {
  ordered = record { names = tt; objects = tt; handles = tt };
  labelled = labelled_empty (FreeAfter []) (λ n free. free.0);
  founded = founded_empty;
  used = used_empty;
}

pub sound_replay : (history : List Record) → IsLegal history → IsSound (FreeAfter history) (replay history)
unfolding IsLegal replay
sound_replay history legal = sound_from [] history legal sound_empty

-- allowed changes after a legal history keep the tree well formed
pub well_formed : (history : List Record) (number : ℕ) (changes : List Change) → IsLegal history → AreAllowed number (replay history) changes
    → IsWellFormed (done (replay history) changes)
well_formed history number changes legal may =
    let s = sound_replay history legal in
    let free : ℕ → Type 0 = λ n. FreeAfter history n × (n ≢ number) in
    let after = sound_done free number (λ f. f.1 refl) (replay history) changes may (record {
      ordered = s.ordered;
      labelled = labelled_less (FreeAfter history) free (replay history) (λ n f. f.0) s.labelled;
      founded = s.founded;
      used = s.used;
    }) in
    record {
      ordered = after.ordered;
      object = after.founded.object;
      way = after.founded.way;
      one_path = λ path other label is e f. after.labelled.one_path path other label (sym (ap (is_directory_label (done (replay history) changes).objects) e) ∙ sym (is_directory_is (done (replay history) changes) path) ∙ is) e f;
      few_paths = after.labelled.few;
      used = kept-used _ after.used;
    }
