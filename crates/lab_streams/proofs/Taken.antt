-- What reading takes from a reader.
use Rattle.std.proofs.{Common.{◌≡◌, ◌⊎◌, inl, inr, ℕ, ◌≤◌, List, [], ◌++◌, length, Option, None, Some, IfSome, ap, sym, subst, refl, ◌∙◌, take_all, append-nil, append_assoc, take}, lemmas.List.{take_at}, KnownBytes.{Consumes-nil, Consumes-trans, Consumes-kept}}
use Rattle.std.specs.Io.KnownBytes.{Consumes, Keeps, IsAtEnd}
use Rattle.lab_streams.specs.Input.{Takes, read_of}

module _ (a b : Option (List ℕ)) where
  -- what is kept gives nothing
  pub takes_none : (old : List ℕ) → Keeps a b → Takes a b old old
  takes_none old kept = record { part = []; grown = sym (append-nil old); taken = Consumes-kept a a b [] (Consumes-nil a) kept }

  -- what one turn takes, and then another, both take
  pub takes_more : (c : Option (List ℕ)) (old mid new : List ℕ) → Takes a b old mid → Takes b c mid new → Takes a c old new
  takes_more c old mid new first second = record {
    part = first.part ++ second.part;
    grown = second.grown ∙ ap (λ z. z ++ second.part) first.grown ∙ append_assoc old first.part second.part;
    taken = Consumes-trans a b c first.part second.part first.taken second.taken;
  }

-- before the first turn nothing is taken
pub takes_start : (a : Option (List ℕ)) → Takes a a [] []
takes_start a = record { part = []; grown = refl; taken = Consumes-nil a }

module _ (most : ℕ) where
  -- at the reader's end, what was taken is all that there was
  pub taken_at_end : (a b : Option (List ℕ)) (bytes : List ℕ) → length bytes ≤ most → Consumes a b bytes → IsAtEnd b
      → IfSome a (λ input. bytes ≡ take most input)
  taken_at_end None b bytes few taken end = tt
  taken_at_end (Some input) None bytes few taken end = absurd taken
  taken_at_end (Some input) (Some rest) bytes few taken end =
      let all : input ≡ bytes = taken ∙ ap (λ z. bytes ++ z) end ∙ append-nil bytes in
      sym (take_all most bytes few) ∙ ap (take most) (sym all)

  -- as many bytes as are read at most are the front of what there was
  pub taken_at_limit : (a b : Option (List ℕ)) (bytes : List ℕ) → length bytes ≡ most → Consumes a b bytes
      → IfSome a (λ input. bytes ≡ take most input)
  taken_at_limit None b bytes full taken = tt
  taken_at_limit (Some input) None bytes full taken = absurd taken
  taken_at_limit (Some input) (Some rest) bytes full taken = sym (take_at bytes rest most full) ∙ ap (take most) (sym taken)

  -- where reading ends, what was taken is what is read
  pub read_whole : (a b : Option (List ℕ)) (bytes : List ℕ) → length bytes ≤ most → Takes a b [] bytes
      → IsAtEnd b ⊎ (length bytes ≡ most) → IfSome a (λ input. bytes ≡ take most input)
  read_whole a b bytes few took (inl end) = rw took.grown (taken_at_end a b took.part (rw took.grown at few) took.taken end)
  read_whole a b bytes few took (inr full) = rw took.grown (taken_at_limit a b took.part (rw took.grown at full) took.taken)

  -- and that was taken from the reader
  pub read_out : (a b : Option (List ℕ)) (bytes : List ℕ) → Takes a b [] bytes → IfSome a (λ input. bytes ≡ take most input)
      → IfSome a (λ input. Consumes a b (take most input))
  read_out None b bytes took is = tt
  read_out (Some input) b bytes took is = subst (Consumes (Some input) b) (sym took.grown ∙ is) took.taken

-- what is said of an input, where a text was written of what was read of it
pub said_of_input : (remaining : Option (List ℕ)) (bytes text : List ℕ) (Puts : List ℕ → Type 0) (Says : List ℕ → List ℕ → Type 0) → IfSome remaining (λ input. bytes ≡ read_of input)
    → Puts text → ((input : List ℕ) → bytes ≡ read_of input → Says input text) → IfSome remaining (λ input. (said : List ℕ) × Puts said × Says input said)
said_of_input None bytes text Puts Says is puts says = tt
said_of_input (Some input) bytes text Puts Says is puts says = (text, puts, says input is)
