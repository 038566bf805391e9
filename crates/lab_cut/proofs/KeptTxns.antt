-- What a mask of all operations keeps of each transaction.
use Rattle.std.{proofs.{Common.{◌≡◌, ℕ, Bool, true, false, cond, ◌==◌, ◌||◌, List, [], ◌∷◌, map, length, Option, Some, refl, sym, ap, ◌∙◌, subst, eq-eqb}, lemmas.Option.{same_Some}}, specs.{Prelude.{drop}, List.{list_any}}}
use Rattle.lab_table.proofs.Tests.{true_and_false}
use Rattle.lab_history.specs.{HistoryRules.{AllDistinct}, declared.transaction.Txn.{Txn}}
use Rattle.lab_cut.{specs.{Kept.{kept_of, all_kept, last_given}, declared.kept.Kept.{Kept}}, proofs.NewNumbers.{LeadBack, lead_back}}

-- of each transaction is kept what a mask of all operations keeps
abbrev pub AllKept : (ℕ → Option Kept) → List Bool → List Txn → Type 0
AllKept kept mask [] = Unit {0}
AllKept kept mask (t ∷ ts) = (kept t.no ≡ Some (kept_of mask t.ops)) × AllKept kept (drop (length t.ops) mask) ts

-- a number that others don't have keeps its value
given_else : (mask : List Bool) (ts : List Txn) (n : ℕ) (value : Option Kept) → list_any (λ m. m == n) (map (λ t. t.no) ts) ≡ false → last_given value (all_kept mask ts) n ≡ value
given_else mask [] n value none = refl
given_else mask (t ∷ ts) n value none =
    let parts = neither (t.no == n) (list_any (λ m. m == n) (map (λ t. t.no) ts)) none in
    ap (λ b. last_given (cond b (Some (kept_of mask t.ops)) value) (all_kept (drop (length t.ops) mask) ts) n) parts.0
    ∙ given_else (drop (length t.ops) mask) ts n value parts.1
  where
    neither : (a b : Bool) → (a || b) ≡ false → (a ≡ false) × (b ≡ false)
    neither true b e = true_and_false _ true refl e
    neither false b e = (refl, e)

-- where no number comes twice, each has what is kept of its own
pub kept_of_each : (value : ℕ → Option Kept) (mask : List Bool) (ts : List Txn) → AllDistinct (map (λ t. t.no) ts) → AllKept (λ n. last_given (value n) (all_kept mask ts) n) mask ts
kept_of_each value mask [] apart = tt
kept_of_each value mask (t ∷ ts) apart =
    let behind = drop (length t.ops) mask in
    let own = kept_of mask t.ops in (
      given_else behind ts t.no (cond (t.no == t.no) (Some own) (value t.no)) apart.0 ∙ ap (λ b. cond b (Some own) (value t.no)) (eq-eqb t.no t.no refl),
      kept_of_each (λ n. cond (t.no == n) (Some own) (value n)) behind ts apart.1,
    )

-- whatever is given leads back
pub given_leads_back : (mask : List Bool) (ts : List Txn) (n : ℕ) (value : Option Kept) → ((some : Kept) → value ≡ Some some → LeadBack some.numbers)
    → (some : Kept) → last_given value (all_kept mask ts) n ≡ Some some → LeadBack some.numbers
given_leads_back mask [] n value leads some e = leads some e
given_leads_back mask (t ∷ ts) n value leads some e =
    given_leads_back (drop (length t.ops) mask) ts n (cond (t.no == n) (Some (kept_of mask t.ops)) value) (either (t.no == n)) some e
  where
    own : (some : Kept) → Some (kept_of mask t.ops) ≡ Some some → LeadBack some.numbers
    own some e = subst (λ (k : Kept). LeadBack k.numbers) (same_Some (kept_of mask t.ops) some e) (lead_back mask t.ops)

    either : (b : Bool) (some : Kept) → cond b (Some (kept_of mask t.ops)) value ≡ Some some → LeadBack some.numbers
    either true some e = own some e
    either false some e = leads some e

-- one transaction more, in a map of what is kept
pub given_step : (n : ℕ) (old new : Option Kept) (own : Kept) (mask behind : List Bool) (ts rest : List Txn) (t : Txn) (whole : Option Kept) → ts ≡ t ∷ rest → own ≡ kept_of mask t.ops → behind ≡ drop (length t.ops) mask
    → new ≡ cond (t.no == n) (Some own) old → last_given old (all_kept mask ts) n ≡ whole → last_given new (all_kept behind rest) n ≡ whole
given_step n old new own mask behind ts rest t whole is kept on update inv =
    ap (λ o. last_given o (all_kept behind rest) n) (update ∙ ap (λ k. cond (t.no == n) (Some k) old) kept)
    ∙ ap (λ m. last_given (cond (t.no == n) (Some (kept_of mask t.ops)) old) (all_kept m rest) n) on
    ∙ sym (ap (λ us. last_given old (all_kept mask us) n) is)
    ∙ inv
