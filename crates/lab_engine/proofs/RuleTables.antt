-- The law of the table of rules, and what a flag of it turns on.
use Rattle.lab_engine.{proofs.Common.{Bool, false, If, Level, refl, rules_of, sym, true, true≢false, Where, ◌≡◌}, specs.declared.event.Level.TheVariants.{Locking}}

-- where readers are waited for so are writers, of what is matched and of what would be written, and what has committed by now is seen
pub readers_locked : (level : Level) → (rules_of level).read_blocks ≡ true
    → ((rules_of level).match_blocks ≡ true) × ((rules_of level).write_blocks ≡ true) × ((rules_of level).sees_begin ≡ false)
readers_locked Locking on = (refl, refl, refl)
readers_locked other on = absurd (true≢false (sym on))

pub locks_see_now : (level : Level) → (rules_of level).read_blocks ≡ true → (rules_of level).sees_begin ≡ false
locks_see_now level on = (readers_locked level on).2

-- what is asked where a flag is set holds there
pub where_holds : (flag : Bool) {A : Type 0} → flag ≡ true → Where flag A → A
where_holds true on h = h
where_holds false on h = absurd (true≢false (sym on))

-- and is asked of no other
pub where_made : (flag : Bool) {A : Type 0} → (flag ≡ true → A) → Where flag A
where_made true h = h refl
where_made false h = tt

pub where_map : (flag : Bool) {A B : Type 0} → (flag ≡ true → A → B) → Where flag A → Where flag B
where_map true f h = f refl h
where_map false f h = tt

-- what holds only where a flag is set holds, and the flag is set
pub if_holds : (flag : Bool) {A : Type 0} → If flag A → A
if_holds true h = h
if_holds false h = absurd h

pub if_set : (flag : Bool) (A : Type 0) → If flag A → flag ≡ true
if_set true A h = refl
if_set false A h = absurd h

pub if_made : (flag : Bool) {A : Type 0} → flag ≡ true → A → If flag A
if_made true on h = h
if_made false on h = absurd (true≢false (sym on))

pub if_map : (flag : Bool) {A B : Type 0} → (flag ≡ true → A → B) → If flag A → If flag B
if_map true f h = f refl h
if_map false f h = h
