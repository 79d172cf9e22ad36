-- A connection over a stream that a thread waits for.
use Rattle.std.proofs.Common.{◌≡◌, ◌≢◌, ◌≤◌, ℕ, List, [], ◌∷◌, ◌++◌, Option, Some, None, Result, Ok, Err, refl, sym, ap, ◌∙◌, subst, append-nil, append_assoc}
use Rattle.std.specs.List.{AllByRecursion}
use Rattle.sf_session.specs.declared.cause.Cause.{Cause}
use Rattle.sf_session.specs.declared.fault.ServeFault.{ServeFault}
use Rattle.sf_connection.specs.Progress.{Progress}
use Rattle.sf_connection.specs.declared.connection.Connection.{Connection}
use Rattle.sf_connection.specs.declared.connection.Wants.{Wants}
use Rattle.sf_connection.specs.declared.connection.Wants.TheVariants.{Read, Write, Both, Again, Ended}
use Rattle.sf_connection.specs.Streams.{StreamView, WaitsView}
use Rattle.sf_connection.specs.Connections.{IsServing, Returns, IfEnded}
use Rattle.sf_connection.specs.Waits.{RecordsWaits, wait_made, IsPromptWait, WaitsPromptly}
use Rattle.sf_connection.proofs.Turns.{served_still}

-- ---- the record of waits

same_waits : (a b : Option (List StreamView)) → b ≡ a → RecordsWaits a b []
same_waits None b e = tt
same_waits (Some xs) b e = subst (λ (o : Option (List StreamView)). RecordsWaits (Some xs) o []) (sym e) (sym (append-nil xs))

more_waits : (a b c : Option (List StreamView)) (xs ys : List StreamView) → RecordsWaits a b xs → RecordsWaits b c ys → RecordsWaits a c (xs ++ ys)
more_waits None b c xs ys p q = tt
more_waits (Some a) None c xs ys p q = absurd p
more_waits (Some a) (Some b) None xs ys p q = absurd q
more_waits (Some a) (Some b) (Some c) xs ys p q = q ∙ ap (λ (z : List StreamView). z ++ ys) p ∙ append_assoc a xs ys

all_waits : (from : StreamView) (xs ys : List StreamView) → AllByRecursion (IsPromptWait from) xs → AllByRecursion (IsPromptWait from) ys → AllByRecursion (IsPromptWait from) (xs ++ ys)
all_waits from [] ys p q = q
all_waits from (x ∷ xs) ys p q = (p.0, all_waits from xs ys p.1 q)

pub waits_none : (from : StreamView) (a b : WaitsView) → b ≡ a → WaitsPromptly from a b
waits_none from a b e = ([], same_waits a.made b.made (ap (λ (w : WaitsView). w.made) e), tt)

pub waits_on : (from : StreamView) (a b c : WaitsView) → WaitsPromptly from a b → WaitsPromptly from b c → WaitsPromptly from a c
waits_on from a b c h k = (h.0 ++ k.0, more_waits a.made b.made c.made h.0 k.0 h.1 k.1, all_waits from h.0 k.0 h.2 k.2)

-- ---- a wait

made_promptly : {H S : Type 0} (held work : ℕ) (from now : StreamView) (w : Wants) (c : Connection H S) (p p' : Progress) → Returns w held work from now c p p' → AllByRecursion (IsPromptWait from) (wait_made w now)
made_promptly held work from now Read c p p' h = ((p', h.0.passed, h.1), tt)
made_promptly held work from now Write c p p' h = tt
made_promptly held work from now Both c p p' h = tt
made_promptly held work from now Again c p p' h = tt
made_promptly held work from now (Ended o) c p p' h = tt

pub waits_once : {H S : Type 0} (held work : ℕ) (from now : StreamView) (w : Wants) (c : Connection H S) (p p' : Progress) (a b b' : WaitsView) → Returns w held work from now c p p' → b ≡ a → RecordsWaits b.made b'.made (wait_made w now) → WaitsPromptly from a b'
waits_once held work from now w c p p' a b b' h e r = waits_on from a b b' (waits_none from a b e) (wait_made w now, r, made_promptly held work from now w c p p' h)

pub serving_of : {H S : Type 0} (held work : ℕ) (from now : StreamView) (w : Wants) (c : Connection H S) (p p' : Progress) → ((o : _) → w ≢ Ended o) → Returns w held work from now c p p' → IsServing held work from now c p'
serving_of held work from now Read c p p' going h = h.0
serving_of held work from now Write c p p' going h = h.0
serving_of held work from now Both c p p' going h = h.0
serving_of held work from now Again c p p' going h = h.0
serving_of held work from now (Ended o) c p p' going h = absurd (going o refl)

pub going_of : (w : Wants) (going gone : Type 0) → ((o : _) → w ≢ Ended o) → IfEnded w going gone → going
going_of Read going gone never h = h
going_of Write going gone never h = h
going_of Both going gone never h = h
going_of Again going gone never h = h
going_of (Ended o) going gone never h = absurd (never o refl)

-- nothing passed while it waited
pub serving_on : {H S : Type 0} (held work : ℕ) (from now now' : StreamView) (w : Wants) (c c' : Connection H S) (p p' : Progress) → ((o : _) → w ≢ Ended o) → c'.gathered ≡ c.gathered → c'.direct ≡ c.direct → c'.ahead ≡ c.ahead → c'.state ≡ c.state → c'.input ≡ c.input → now'.incoming ≡ now.incoming → now'.outgoing ≡ now.outgoing → now.failed ≤ now'.failed → Returns w held work from now c p p' → IsServing held work from now' c' p'
serving_on held work from now now' w c c' p p' going g d a s n i o more h = served_still c c' g d a s n i o more (serving_of held work from now w c p p' going h)

pub ended_as : {H S : Type 0} (held work : ℕ) (from now : StreamView) (w : Wants) (o : Result Cause ServeFault) (c : Connection H S) (p p' : Progress) → w ≡ Ended o → Returns w held work from now c p p' → Returns (Ended o) held work from now c p p'
ended_as held work from now w o c p p' e h = subst (λ (x : Wants). Returns x held work from now c p p') e h

-- since an earlier time
pub returns_ended : {H S : Type 0} (held work : ℕ) (from now : StreamView) (o : Result Cause ServeFault) (c : Connection H S) (p p₀ p' : Progress) → Returns (Ended o) held work from now c p p' → Returns (Ended o) held work from now c p₀ p'
returns_ended held work from now (Ok cause) c p p₀ p' h = h
returns_ended held work from now (Err f) c p p₀ p' h = h
