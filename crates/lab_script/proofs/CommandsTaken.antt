-- What is read as the commands of a line is in the grammar, and reading stops with few kinds of faults.
use Rattle.lab_script.proofs.Common.{◌≡◌, ◌⊎◌, ℕ, zero, suc, ◌≤◌, ◌<◌, true, List, [], ◌∷◌, ◌++◌, length, take, Some, refl, sym, ap, subst, ◌∙◌, length-append, one-add, arith, inl, inr, append_assoc, append-nil, nat_le, and_parts, ◌&&◌, option_to_list, list_all, prefix_len, take-append-drop, and_from, cases_Bool, leb-true, Command, Token, ScriptFaultKind, Reads, if_found, is_short, is_word, words_read, level_read, command_read, added_read, step_read, repeated_read, some_left, commands_read, IsCommand, IsCommands, Gives, gives, stops, Takes, Any, gives_of, then_gives, each_gives, if_gives, taken, made, found, tokens_give, statement_taken, end_gives}
use Rattle.lab_table.specs.declared.statement.Command.TheVariants as command
use Rattle.lab_table.specs.declared.word.Word.TheVariants as word
use Rattle.lab_statement.specs.declared.token.Token.TheVariants as token
use Rattle.lab_statement.specs.declared.fault.ScriptFaultKind.TheVariants as kinds
use Rattle.lab_script.specs.Grammar as grammar
use Rattle.lab_statement.specs.Grammar as statement

-- the tokens at the front, as far as they are words, are all words
words_all : (ts : List Token) → list_all is_word (take (prefix_len is_word ts) ts) ≡ true
words_all [] = refl
words_all (t ∷ ts) = elim (cases_Bool (is_word t)) [
  | inl is ↦ rw (is, one-add (prefix_len is_word ts)) (and_from (is_word t) _ is (words_all ts))
  | inr isnt ↦ rw isnt refl
]

-- words behind these tokens, at least one
abbrev Worded : List Token → List Token → List Token → Type 0
Worded front ts rest = (w : Token) × (ws : List Token) × (ts ≡ front ++ w ∷ ws ++ rest) × (list_all is_word (w ∷ ws) ≡ true)

-- a statement at the front, and its end
abbrev Closed : List Token → List Command → List Token → Type 0
Closed ts cs rest = (front end : List Token) × (ts ≡ front ++ end) × IsCommand front cs × (((end ≡ []) × (rest ≡ [])) ⊎ (end ≡ token.Semicolon ∷ rest))

-- the commands of a statement behind others, for which there is room
abbrev Stepped : ℕ → List Command → List Token → List Command × List Token → Type 0
Stepped room before ts x = (cs : List Command) × Closed ts cs x.1 × (before ++ cs ≡ x.0) × (length x.0 ≤ room)

-- the commands of all statements, behind others
abbrev AllStepped : ℕ → List Command → List Token → List Command × List Token → Type 0
AllStepped room before ts x = ((cs : List Command) × IsCommands ts cs × (before ++ cs ≡ x.0)) × (length x.0 ≤ room)

closed_last : (ts : List Token) (cs : List Command) (rest : List Token) → rest ≡ [] → Closed ts cs rest → IsCommands ts cs
closed_last ts cs rest none (front, end, is, h, inl both) = subst (λ (us : List Token). IsCommands us cs) (sym (is ∙ ap (λ (us : List Token). front ++ us) both.0 ∙ append-nil front)) (grammar.one h)
closed_last ts cs rest none (front, end, is, h, inr closed) =
    subst (λ (us : List Token). IsCommands us cs) (sym (is ∙ ap (λ (us : List Token). front ++ us) closed ∙ ap (λ (us : List Token). front ++ token.Semicolon ∷ us) none)) (grammar.closed h)

closed_more : (ts : List Token) (cs ds : List Command) (t : Token) (others : List Token) → Closed ts cs (t ∷ others) → IsCommands (t ∷ others) ds → IsCommands ts (cs ++ ds)
closed_more ts cs ds t others (front, end, is, h, inl both) hs = absurd (cc both.1)
closed_more ts cs ds t others (front, end, is, h, inr closed) hs = subst (λ (us : List Token). IsCommands us (cs ++ ds)) (sym (is ∙ ap (λ (us : List Token). front ++ us) closed)) (grammar.more h hs)

-- a command is at least one token
pub command_long : {ts : List Token} {cs : List Command} → IsCommand ts cs → 1 ≤ length ts
command_long (grammar.run (statement.select table h) le) = omega arith
command_long h = omega arith

closed_short : (ts : List Token) (cs : List Command) (rest : List Token) → Closed ts cs rest → length rest < length ts
closed_short ts cs rest (front, end, is, h, inl both) = omega (arith, ap length is, length-append front end, command_long h, ap length both.1)
closed_short ts cs rest (front, end, is, h, inr closed) = omega (arith, ap length is, length-append front end, command_long h, ap length closed)

module _ {Fault : ScriptFaultKind → Type 0} (unknown : Fault kinds.UnknownStatement) (name : Fault kinds.BadTableName) (range : Fault kinds.NumberOutOfRange) (deep : Fault kinds.TooDeep)
    (long : Fault kinds.TooLong) where
  words_give : (ts : List Token) → Gives Fault (Worded [] ts) (words_read ts)
  unfolding words_read
  words_give [] = stops unknown
  words_give (t ∷ ts) =
      let n = prefix_len is_word ts in
      if_gives (is_word t) (λ is. gives (t, take n ts, ap (λ (us : List Token). t ∷ us) (sym (take-append-drop n ts)), and_from (is_word t) _ is (words_all ts))) (λ not. stops unknown)

  level_gives : (ts : List Token) → Gives Fault (Worded (token.Word word.Transaction ∷ token.Word word.Isolation ∷ token.Word word.Level ∷ []) ts) (level_read ts)
  unfolding level_read
  level_gives ts = then_gives _ (tokens_give unknown (token.Word word.Transaction ∷ token.Word word.Isolation ∷ token.Word word.Level ∷ []) ts) (λ rest is.
      each_gives (words_give rest) (λ left w. (w.0, w.1, is ∙ ap (λ (us : List Token). token.Word word.Transaction ∷ token.Word word.Isolation ∷ token.Word word.Level ∷ us) w.2, w.3)))

  command_taken : (ts : List Token) → Takes Fault (λ front c. is_short c ≡ true → IsCommand front (option_to_list c)) ts (command_read ts)
  unfolding command_read
  command_taken ts = found (token.Word word.Begin) ts _ _ (λ rest. taken [] refl (λ short. grammar.begin))
      (found (token.Word word.Commit) ts _ _ (λ rest. taken [] refl (λ short. grammar.commit))
      (found (token.Word word.Abort) ts _ _ (λ rest. taken [] refl (λ short. grammar.abort))
      (found (token.Word word.Rollback) ts _ _ (λ rest. taken [] refl (λ short. grammar.rollback))
      (found (token.Word word.Set) ts _ _ (λ rest. then_gives _ (level_gives rest) (λ left w.
      taken (token.Word word.Transaction ∷ token.Word word.Isolation ∷ token.Word word.Level ∷ w.0 ∷ w.1) w.2 (λ short. grammar.level w.0 w.1 w.3)))
      (made (λ s. Some (command.Run s)) (statement_taken unknown name range deep ts) (λ s front is short. grammar.run is (leb-true _ _ short)))))))

  added_taken : (before : List Command) (ts : List Token) → Takes Fault (λ front x. x.1 ≡ true → (cs : List Command) × IsCommand front cs × (before ++ cs ≡ x.0)) ts (added_read before ts)
  unfolding added_read
  added_taken before ts = made (λ c. (before ++ option_to_list c, is_short c)) (command_taken ts) (λ c front is short. (option_to_list c, is short, refl))

  step_gives : (room : ℕ) (before : List Command) (ts : List Token) → Gives Fault (Stepped room before ts) (step_read room before ts)
  unfolding step_read
  step_gives room before ts = then_gives _ (added_taken before ts) (λ c h. then_gives _ (end_gives unknown name range deep c.1) (λ rest end.
      if_gives (c.0.1 && nat_le (length c.0.0) room) (λ fits.
      let both = and_parts c.0.1 _ fits in
      let is = h.is both.0 in
      gives (is.0, (h.front, c.1, h.text, is.1, end), is.2, leb-true _ _ both.1)) (λ not. stops long)))

  all_give : (k room : ℕ) (before : List Command) (ts : List Token) → Gives Fault (AllStepped room before ts) (repeated_read k (step_read room) some_left before ts)
  unfolding repeated_read
  all_give zero room before ts = stops unknown
  all_give (suc k) room before ts = then_gives _ (step_gives room before ts) (on (all_give k room))
    where
      on : ((all : List Command) (others : List Token) → Gives Fault (AllStepped room all others) (repeated_read k (step_read room) some_left all others))
          → (x : List Command × List Token) → Stepped room before ts x → Gives Fault (AllStepped room before ts) (if_found (some_left x.1) (λ rest. repeated_read k (step_read room) some_left x.0 rest) (Reads x))
      on next (all, []) (cs, h, joined, few) = gives ((cs, closed_last ts cs [] refl h, joined), few)
      on next (all, t ∷ others) (cs, h, joined, few) = each_gives (next all (t ∷ others)) (λ y m. (
        (cs ++ m.0.0, closed_more ts cs m.0.0 t others h m.0.1, sym (append_assoc before cs m.0.0) ∙ ap (λ (ds : List Command). ds ++ m.0.0) joined ∙ m.0.2),
        m.1,
      ))

  -- what is read of a line is its commands in the grammar, and there is room for them
  pub commands_give : (room : ℕ) (ts : List Token) → Gives Fault (λ cs. IsCommands ts cs × (length cs ≤ room)) (commands_read room ts)
  unfolding commands_read
  commands_give room ts = then_gives _ (all_give (suc (length ts)) room [] ts) (λ x h. gives (subst (IsCommands ts) h.0.2 h.0.1, h.1))

pub step_short : (room : ℕ) (before : List Command) (ts : List Token) (x : List Command × List Token) → step_read room before ts ≡ Reads x → length x.1 < length ts
step_short room before ts x e = let s = gives_of x (step_gives {Fault = Any} tt tt tt tt tt room before ts) e in closed_short ts s.0 x.1 s.1
