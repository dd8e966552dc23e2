-- SETATTR's checks once its object is found.
use Rattle.fs_rules.specs.Words.{ℕ, not, List, Ok, SetAttrArgs, Fattr, Cred, Moment, NoSpc, NotSync}
use Rattle.fs_rules.specs.declared.plans.SetAttrPlan.{SetAttrPlan}
use Rattle.fs_rules.specs.Shared.{apply_sattr, given, sattr_fault, Check, ◌>>=◌, need_live, no_fault, refuse_if, Object}
use Rattle.fs_rules.specs.Shared.{fileid_at}
use Rattle.fs_rules.specs.Setting.{is_same, lacks_cuts}

-- the plan for an object of these attributes
unfoldable pub plan_for : Object → Fattr → Cred → SetAttrArgs (List ℕ) → Moment → Check SetAttrPlan
plan_for o attributes cred a now = do
  _ ← need_live o
  _ ← refuse_if (given a.guard (λ guard. not (is_same guard o.inode.ctime))) NotSync
  _ ← no_fault (sattr_fault cred attributes a.attributes)
  _ ← refuse_if (lacks_cuts a.attributes.size o) NoSpc
  Ok (record { fileid = fileid_at o.place; attributes = apply_sattr attributes a.attributes now })
