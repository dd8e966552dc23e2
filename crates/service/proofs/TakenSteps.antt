-- What was done with one record is a turn.
use Rattle.std.proofs.Common.{◌≡◌, ℕ, List, [], ◌∷◌, ◌++◌, Ok, Err, refl, sym, subst}
use Rattle.nfs3_types.specs.declared.moment.Moment.{Moment}
use Rattle.nfs3_types.specs.declared.reply.Reply.{Reply}
use Rattle.nfs3_types.specs.Calls.{Call}
use Rattle.outside.specs.Clock.{ClockTold, GaveMoments}
use Rattle.outside.proofs.MomentLaws.{gave_moments-nil}
use Rattle.rpc_msg.specs.declared.call.HeadFault.{HeadFault}
use Rattle.rpc_msg.specs.declared.credential.Who.{Who}
use Rattle.rpc_msg.specs.Auth.{Caller}
use Rattle.rpc_route.specs.Immediate.{Immediate, Bad, Replied, Needs, immediate_reply}
use Rattle.rpc_route.specs.declared.routed.Routed.{Routed}
use Rattle.rpc_route.specs.declared.routed.Routed.TheVariants.{Nfs, Ready as RepliedAtOnce}
use Rattle.rpc_route.specs.declared.routed.RouteFault.{RouteFault}
use Rattle.rpc_route.specs.declared.routed.RouteFault.TheVariants.{BadRecord as BadHead}
use Rattle.rpc_route.specs.Routing.{caller_of, HasReply, NeedsTree, RoutesRecord}
use Rattle.rpc_route.specs.Sealing.{sealed}
use Rattle.service.specs.Turns.{Answering, Ready, Told, Starved, TellsTurn, cred_of, no_memory, no_reply, reply_to}
use Rattle.service.specs.Steps.{TakesCall, TakesTurn}

-- ---- how it was routed

needs_of : (i : Immediate) (text old new : List ℕ) (routed : Routed) (xid : ℕ) (who : Who) (lent : Call)
    → RoutesRecord i text old new (Ok routed) → routed ≡ Nfs xid who lent → NeedsTree i xid who lent old new
needs_of i text old new routed xid who lent h is = subst (λ (r : Routed). RoutesRecord i text old new (Ok r)) is h

pub needs_is : (i : Immediate) (text old new : List ℕ) (routed : Routed) (xid : ℕ) (who : Who) (lent : Call)
    → RoutesRecord i text old new (Ok routed) → routed ≡ Nfs xid who lent → i ≡ Needs xid (caller_of who) lent
needs_is i text old new routed xid who lent h is = (needs_of i text old new routed xid who lent h is).is

pub has_reply : (i : Immediate) (text old new : List ℕ) (routed : Routed) → RoutesRecord i text old new (Ok routed)
    → routed ≡ RepliedAtOnce → HasReply i old new
has_reply i text old new routed h is = subst (λ (r : Routed). RoutesRecord i text old new (Ok r)) is h

pub is_bad : (i : Immediate) (text old new : List ℕ) (fault : RouteFault) (head : HeadFault)
    → RoutesRecord i text old new (Err fault) → fault ≡ BadHead head → i ≡ Bad head
is_bad i text old new fault head h is = (subst (λ (f : RouteFault). RoutesRecord i text old new (Err f)) is h).is

-- ---- which turn it is

module _ {T : Type 0} (a : Answering T) where
  -- the tree told a reply
  pub call-told : (tree tree' : T) (caller : Caller) (lent : Call) (moment : Moment) (xid : ℕ) (reply : Reply) (out : List ℕ)
      → reply ≡ a.answer tree (cred_of caller) lent moment → tree' ≡ a.after tree (cred_of caller) lent moment
      → out ≡ sealed xid reply
      → TakesCall a (tree, tree') caller lent moment xid out
  call-told tree tree' caller lent moment xid reply out answer next is =
      record { outcome = Told moment reply; tells = (answer, next); moment_is = refl; reply_is = is }

  -- memory ran out before
  pub call-starved : (tree tree' : T) (caller : Caller) (lent : Call) (moment : Moment) (xid : ℕ) (out : List ℕ)
      → tree' ≡ tree → out ≡ no_memory xid → TakesCall a (tree, tree') caller lent moment xid out
  call-starved tree tree' caller lent moment xid out stays is =
      record { outcome = Starved moment; tells = stays; moment_is = refl; reply_is = is }

module _ {T C : Type 0} (a : Answering T) (told : ClockTold C) where
  -- a record that needs no tree
  pub turn-replied : (tree : T) (clock : C) (content reply out : List ℕ) → immediate_reply a.fsid content ≡ Replied reply
      → out ≡ [] ++ reply → TakesTurn a told (tree, clock) (tree, clock) content out
  unfolding reply_to TellsTurn no_reply
  turn-replied tree clock content reply out is e = record {
    outcome = Ready;
    answered = rw is refl;
    tells = rw is (refl, refl);
    gave = gave_moments-nil told clock;
    reply_is = rw is e;
  }

  -- a call that needs the tree
  pub turn-taken : (tree tree' : T) (clock clock' : C) (content out : List ℕ) (xid : ℕ) (caller : Caller) (lent : Call)
      (moment : Moment)
      → immediate_reply a.fsid content ≡ Needs xid caller lent → GaveMoments told clock clock' (moment ∷ [])
      → TakesCall a (tree, tree') caller lent moment xid out
      → TakesTurn a told (tree, clock) (tree', clock') content out
  unfolding reply_to TellsTurn no_reply
  turn-taken tree tree' clock clock' content out xid caller lent moment is gave taken = record {
    outcome = taken.outcome;
    answered = rw is refl;
    tells = rw is taken.tells;
    gave = subst (GaveMoments told clock clock') (sym taken.moment_is) gave;
    reply_is = rw is taken.reply_is;
  }
