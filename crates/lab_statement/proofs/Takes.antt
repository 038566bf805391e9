-- What a reading takes from the front of tokens, and with which faults it stops.
use Rattle.lab_statement.proofs.{Common.{◌≡◌, Bool, true, false, cond, List, [], ◌∷◌, ◌++◌, Option, Some, None, refl, sym, ap, subst, ◌∙◌, append_assoc, Token, ScriptFaultKind, UnknownStatement, after, Reading, Reads, Stops, ◌>>=◌, if_found, token_read, tokens_read}, SameTokens.{after_is}}

-- each value that is read is one of these, and each fault with which reading stops is one of those
pub data Gives {X : Type 0} (Fault : ScriptFaultKind → Type 0) (Is : X → Type 0) : Reading X → Type 0 where
  gives : {x : X} → Is x → Gives Fault Is (Reads x)
  stops : {kind : ScriptFaultKind} {left : List Token} → Fault kind → Gives Fault Is (Stops kind left)

-- a front that is in the grammar, and what is left
pub record Front {X : Type 0} (Is : List Token → X → Type 0) (ts : List Token) (x : X × List Token) : Type 0 where
  pub front : List Token
  pub text : ts ≡ front ++ x.1
  pub is : Is front x.0

-- what is read is such a front
abbrev pub Takes : {X : Type 0} → (ScriptFaultKind → Type 0) → (List Token → X → Type 0) → List Token → Reading (X × List Token) → Type 0
Takes Fault Is ts r = Gives Fault (Front Is ts) r

-- any fault
abbrev pub Any : ScriptFaultKind → Type 0
Any kind = Unit {0}

module _ {Fault : ScriptFaultKind → Type 0} where
  -- what is known where reading came to a value, and where it stopped
  pub gives_of : {X : Type 0} {Is : X → Type 0} {r : Reading X} (x : X) → Gives Fault Is r → r ≡ Reads x → Is x
  gives_of {Is = Is} x (gives {x = y} h) is = let same : y ≡ x = cc in subst Is same h
  gives_of x (stops h) is = absurd cc

  pub stop_of : {X : Type 0} {Is : X → Type 0} {r : Reading X} (kind : ScriptFaultKind) (left : List Token) → Gives Fault Is r → r ≡ Stops kind left → Fault kind
  stop_of kind left (gives h) is = absurd cc
  stop_of kind left (stops {kind = other} h) is = let same : other ≡ kind = cc in subst Fault same h

  -- what each value is, said otherwise
  pub each_gives : {X : Type 0} {P Q : X → Type 0} {r : Reading X} → Gives Fault P r → ((x : X) → P x → Q x) → Gives Fault Q r
  each_gives (gives {x} h) more = gives (more x h)
  each_gives (stops h) more = stops h

  -- one reading behind another, and one where a test holds
  pub then_gives : {A B : Type 0} {P : A → Type 0} {Q : B → Type 0} {r : Reading A} (f : A → Reading B) → Gives Fault P r → ((x : A) → P x → Gives Fault Q (f x)) → Gives Fault Q (r >>= f)
  then_gives f (gives {x} h) next = next x h
  then_gives f (stops h) next = stops h

  pub if_gives : {A : Type 0} {Q : A → Type 0} (b : Bool) {one other : Reading A} → (b ≡ true → Gives Fault Q one) → (b ≡ false → Gives Fault Q other) → Gives Fault Q (cond b one other)
  if_gives true holds fails = holds refl
  if_gives false holds fails = fails refl

  -- a token that may be found
  pub found_gives : {A : Type 0} {Q : A → Type 0} (t : Token) (ts : List Token) (one : List Token → Reading A) (other : Reading A) → ((rest : List Token) → ts ≡ t ∷ rest → Gives Fault Q (one rest)) → Gives Fault Q other
      → Gives Fault Q (if_found (after t ts) one other)
  found_gives {A} {Q} t ts one other there instead = choose (after t ts) refl
    where
      choose : (o : Option (List Token)) → after t ts ≡ o → Gives Fault Q (if_found o one other)
      choose (Some rest) is = there rest (after_is t ts rest is)
      choose None is = instead

  module _ {X : Type 0} {To : List Token → X → Type 0} where
    pub taken : {ts rest : List Token} {x : X} (front : List Token) → ts ≡ front ++ rest → To front x → Takes Fault To ts (Reads (x, rest))
    taken front text is = gives (record { front = front; text = text; is = is })

    pub each_taken : {Is : List Token → X → Type 0} {ts : List Token} {r : Reading (X × List Token)} → Takes Fault Is ts r → ((front : List Token) (x : X) → Is front x → To front x) → Takes Fault To ts r
    each_taken h more = each_gives h (λ x h. record { front = h.front; text = h.text; is = more h.front x.0 h.is })

    -- what is taken behind a front is taken with it
    pub further : {ts rest : List Token} {r : Reading (X × List Token)} (front : List Token) → ts ≡ front ++ rest → Takes Fault (λ back. To (front ++ back)) rest r → Takes Fault To ts r
    further front text h =
        each_gives h (λ x h. record { front = front ++ h.front; text = text ∙ ap (λ (us : List Token). front ++ us) h.text ∙ sym (append_assoc front h.front x.1); is = h.is })

    pub behind : {A : Type 0} {Is : List Token → A → Type 0} {ts : List Token} {r : Reading (A × List Token)} (f : A × List Token → Reading (X × List Token)) → Takes Fault Is ts r
        → ((a : A) (front : List Token) → Is front a → (rest : List Token) → Takes Fault (λ back. To (front ++ back)) rest (f (a, rest))) → Takes Fault To ts (r >>= f)
    behind f h next = then_gives f h (λ x h. further h.front h.text (next x.0 h.front h.is x.1))

    -- a part whose value tells its tokens
    pub behind_spelled : {A : Type 0} {ts : List Token} {r : Reading (A × List Token)} (spelled : A → List Token) (f : A × List Token → Reading (X × List Token)) → Gives Fault (λ x. ts ≡ spelled x.0 ++ x.1) r
        → ((a : A) (rest : List Token) → Takes Fault (λ back. To (spelled a ++ back)) rest (f (a, rest))) → Takes Fault To ts (r >>= f)
    behind_spelled spelled f h next = then_gives f h (λ x text. further (spelled x.0) text (next x.0 x.1))

    -- the last part, of which the value is made
    pub made : {A : Type 0} {Is : List Token → A → Type 0} {ts : List Token} {r : Reading (A × List Token)} (g : A → X) → Takes Fault Is ts r → ((a : A) (front : List Token) → Is front a → To front (g a))
        → Takes Fault To ts (r >>= λ x. Reads (g x.0, x.1))
    made g h next = then_gives _ h (λ x h. taken h.front h.text (next x.0 h.front h.is))

    -- the same of what is taken
    pub found : (t : Token) (ts : List Token) (one : List Token → Reading (X × List Token)) (other : Reading (X × List Token)) → ((rest : List Token) → Takes Fault (λ back. To (t ∷ back)) rest (one rest))
        → Takes Fault To ts other → Takes Fault To ts (if_found (after t ts) one other)
    found t ts one other there instead = found_gives t ts one other (λ rest is. further (t ∷ []) is (there rest)) instead

  -- tokens that must be the first
  module _ (unknown : Fault UnknownStatement) where
    pub token_gives : (t : Token) (ts : List Token) → Gives Fault (λ rest. ts ≡ t ∷ rest) (token_read t ts)
    token_gives t ts = found_gives t ts _ _ (λ rest is. gives is) (stops unknown)

    pub tokens_give : (us ts : List Token) → Gives Fault (λ rest. ts ≡ us ++ rest) (tokens_read us ts)
    tokens_give [] ts = gives refl
    tokens_give (u ∷ us) ts = then_gives _ (token_gives u ts) (λ rest is. each_gives (tokens_give us rest) (λ left same. is ∙ ap (λ (vs : List Token). u ∷ vs) same))

    module _ {X : Type 0} {To : List Token → X → Type 0} {ts : List Token} where
      pub behind_token : (t : Token) (f : List Token → Reading (X × List Token)) → ((rest : List Token) → Takes Fault (λ back. To (t ∷ back)) rest (f rest)) → Takes Fault To ts (token_read t ts >>= f)
      behind_token t f next = then_gives f (token_gives t ts) (λ rest is. further (t ∷ []) is (next rest))

      pub behind_tokens : (us : List Token) (f : List Token → Reading (X × List Token)) → ((rest : List Token) → Takes Fault (λ back. To (us ++ back)) rest (f rest)) → Takes Fault To ts (tokens_read us ts >>= f)
      behind_tokens us f next = then_gives f (tokens_give us ts) (λ rest is. further us is (next rest))
