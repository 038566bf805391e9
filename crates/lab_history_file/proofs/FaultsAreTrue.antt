-- A fault that reading has is true.
use Rattle.std.{proofs.Common.{◌≡◌, ◌≢◌, ℕ, ◌==◌, ⊎_elim, Bool, true, false, List, Option, Some, None, is_some, option_and_then, Ok, Err, if◌then◌else◌, codes, nat_lt, bytes_eq, refl, sym, ap, subst, ◌∙◌, ltb-true, eq-eqb}, specs.Prelude.{⊤}}
use Rattle.serde_json.specs.{Data.{Data}, Find.{as_object, as_str}}
use Rattle.lab_history.{specs.{Faults.{required, refused_if}, History.{History}, HistoryRules.{named_tables, distinct_tables, named_rows, distinct_rows}, WithinLimits.{within_limits}, declared.fault.FileFault.{FileFault}}, proofs.Steps.{both_ok, either_err, required_ok, required_err, refused_err}}
use Rattle.lab_history_file.specs.Entries.{value_in, values_in, installed_in}
use Rattle.lab_history_file.specs.FaultOf.{IsTrueFault, IsTrueIn}
use Rattle.lab_history_file.specs.PlaceShape.{is_format}
use Rattle.lab_history_file.specs.Keys.{root_keys}
use Rattle.lab_history_file.specs.Format.{at_key, has_keys, keyed, format_in, number_said, numbered_version, version_in, said_by, version_said, txns_in, parts_of_version, parts_in, history_in}
use Rattle.lab_history.specs.declared.fault.FileFault.TheVariants as fault
use Rattle.lab_history.specs.declared.fault.Limit.TheVariants as limit
use Rattle.lab_history_file.specs.declared.file_version.FileVersion.{FileVersion, TheVariants.{One, Two}}
use Rattle.lab_history.specs.declared.path.ListPlace.TheVariants as list
use Rattle.lab_history.specs.declared.path.Path.TheVariants as path
use Rattle.lab_history_file.proofs.{FaultsOfLists.{pairs_fault, installed_fault}, ListWalks.{is_wrong}, FaultsOfOperations.{none_when, keyed_err}, FaultsOfTransactions.{txns_fault}}

-- what the reading makes of a text where the format's name is wanted
abbrev name_read : List ℕ → Option ⊤
name_read text = if bytes_eq text (codes "hermitage-history") then Some tt else None

unnamed : (o : Option (List ℕ)) → option_and_then name_read o ≡ None → is_format o ≡ false
unnamed None e = refl
unnamed (Some text) e = none_when (bytes_eq text (codes "hermitage-history")) tt e

-- a number that is no version's
no_version : (n : ℕ) (f : FileFault) → numbered_version n ≡ Err f → (n ≢ 1) × (n ≢ 2) × (f ≡ fault.WrongVersion n)
no_version n f e = by (n == 1) (n == 2) (eq-eqb n 1) (eq-eqb n 2) e
  where
    by : (one two : Bool) → (n ≡ 1 → one ≡ true) → (n ≡ 2 → two ≡ true) → (if one then Ok One else if two then Ok Two else Err (fault.WrongVersion n)) ≡ Err f → (n ≢ 1) × (n ≢ 2) × (f ≡ fault.WrongVersion n)
    by true two first second e = absurd cc
    by false true first second e = absurd cc
    by false false first second e = ((λ is. let tested = first is in absurd cc), (λ is. let tested = second is in absurd cc), cc)

-- the version that is read is the one that the value says
said_number : (n : ℕ) (version : FileVersion) → numbered_version n ≡ Ok version → said_by (Some n) ≡ version
said_number n version e = by (n == 1) (n == 2) e
  where
    by : (one two : Bool) → (if one then Ok One else if two then Ok Two else Err (fault.WrongVersion n)) ≡ Ok version → (if one then One else Two) ≡ version
    by true two e = cc
    by false true e = cc
    by false false e = absurd cc

pub said : (d : Data) (version : FileVersion) → version_in d ≡ Ok version → version_said d ≡ version
said d version e =
    let found = both_ok (required path.Version (number_said d)) numbered_version version e in
    ap said_by (required_ok path.Version _ found.0 found.1) ∙ said_number found.0 version found.2

module _ (d : Data) (f : FileFault) where
  format_fault : format_in d ≡ Err f → IsTrueFault d f
  format_fault e =
      ⊎_elim (λ missing. let r = required_err path.Root (as_object d) f missing in is_wrong (version_said d) d f path.Root d r.1 refl (ap (has_keys root_keys) r.0))
      (λ found. let r = required_err path.Format _ f found.2 in is_wrong (version_said d) d f path.Format (at_key (codes "format") d) r.1 refl (unnamed (as_str (at_key (codes "format") d)) r.0))
      (either_err (required path.Root (as_object d)) _ f e)

  version_fault : version_in d ≡ Err f → IsTrueFault d f
  version_fault e =
      ⊎_elim (λ missing. let r = required_err path.Version _ f missing in is_wrong (version_said d) d f path.Version (at_key (codes "version") d) r.1 refl (ap is_some r.0))
      (λ found.
      let r = no_version found.0 f found.2 in
      subst (IsTrueFault d) (sym r.2) (required_ok path.Version _ found.0 found.1, r.0, r.1))
      (either_err (required path.Version (number_said d)) numbered_version f e)

  -- a fault of what stands in a value of a version
  held_fault : (version : FileVersion) → parts_of_version version d ≡ Err f → IsTrueIn version d f
  held_fault version e =
      ⊎_elim (λ wrong. let r = keyed_err path.Root root_keys d f wrong in is_wrong version d f path.Root d r.1 refl r.0) (λ keys.
      ⊎_elim (pairs_fault version d (at_key (codes "initial") d) f value_in list.Initial refl refl (λ v. refl)) (λ begun.
      ⊎_elim (txns_fault version d f) (λ txns.
      ⊎_elim (installed_fault version d f) (λ those.
      ⊎_elim (pairs_fault version d (at_key (codes "end") d) f value_in list.End refl refl (λ v. refl)) (λ ended. absurd cc)
      (either_err (values_in version list.End (at_key (codes "end") d)) _ f those.2))
      (either_err (installed_in version (at_key (codes "installed") d)) _ f txns.2))
      (either_err (txns_in version (at_key (codes "transactions") d)) _ f begun.2))
      (either_err (values_in version list.Initial (at_key (codes "initial") d)) _ f keys.2))
      (either_err (keyed path.Root root_keys d) _ f e)

  -- a fault of the parts is true
  parts_fault : parts_in d ≡ Err f → IsTrueFault d f
  parts_fault e =
      ⊎_elim format_fault (λ named.
      ⊎_elim version_fault (λ versioned. subst (λ version. IsTrueIn version d f) (sym (said d versioned.0 versioned.1)) (held_fault versioned.0 versioned.2))
      (either_err (version_in d) _ f named.2))
      (either_err (format_in d) _ f e)

  limits_fault : (h : History) → parts_in d ≡ Ok h → within_limits h ≡ Err f → IsTrueFault d f
  limits_fault h parts e =
      ⊎_elim (λ over. let r = refused_err _ (fault.OverLimit limit.Tables) f over in subst (IsTrueFault d) (sym r.1) (h, parts, ltb-true 4 _ r.0)) (λ few.
      ⊎_elim (λ over. let r = refused_err _ (fault.OverLimit limit.Ids) f over in subst (IsTrueFault d) (sym r.1) (h, parts, ltb-true 1000 _ r.0))
      (λ fewer. let r = refused_err _ (fault.OverLimit limit.Entries) f fewer.2 in subst (IsTrueFault d) (sym r.1) (h, parts, ltb-true 200000 _ r.0))
      (either_err (refused_if (nat_lt 1000 (distinct_rows (named_rows h))) (fault.OverLimit limit.Ids)) _ f few.2))
      (either_err (refused_if (nat_lt 4 (distinct_tables (named_tables h))) (fault.OverLimit limit.Tables)) _ f e)

  -- a fault of the whole is true
  pub fault_is_true : history_in d ≡ Err f → IsTrueFault d f
  fault_is_true e =
      ⊎_elim parts_fault (λ parts.
      ⊎_elim (limits_fault parts.0 parts.1) (λ kept. absurd cc) (either_err (within_limits parts.0) _ f parts.2)) (either_err (parts_in d) _ f e)
