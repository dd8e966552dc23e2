-- The values of the first page's records: how long they are, and what they say.
use Rattle.std.proofs.Common.{◌≡◌, ℕ, ◌^◌, ◌<◌, ◌≤◌, List, false, length, Some, None, refl, arith}
use Rattle.xdr_grammar.specs.Items.{word, hyper, fixed}
use Rattle.xdr_grammar.proofs.Fits.{word_fits, hyper_fits, fixed_fits}
use Rattle.xdr_grammar.proofs.Items.{hyper-laws}
use Rattle.nfs3_types.specs.declared.file_type.FileType.TheVariants.{Dir}
use Rattle.nfs3_types.specs.declared.moment.Moment.{Moment}
use Rattle.nfs3_types.specs.Attributes.{time}
use Rattle.fs_rules.specs.Limits.{longest_target}
use Rattle.fs_rules.specs.Tree.{root_inode, always}
use Rattle.fs_keys.specs.Inodes.{byte, flag, kind, verifier, no_verifier, head, inode_of, value_of, Fits}
use Rattle.fs_keys.specs.Values.{first, times, first_in, lane_in, times_in}
use Rattle.fs_keys.proofs.InodeLaws.{inode-again, inode-short}
use Rattle.fs_keys.proofs.ValueLaws.{first-laws, times-laws, said-again}
use Rattle.first_page.specs.Records.{IsTime, first_row, root_row}

-- ---- the first record

first_fits : (fsid : ℕ) (bytes : List ℕ) → fsid < 2 ^ 64 → length bytes ≡ 8 → first.Fits (first_row fsid bytes)
unfolding first
first_fits fsid bytes low long = record {
  first = hyper_fits 1 (omega arith);
  second = record { first = hyper_fits fsid low; second = record { first = fixed_fits 8 bytes long; second = refl } };
}

pub first_long : (fsid : ℕ) (bytes : List ℕ) → fsid < 2 ^ 64 → length bytes ≡ 8
    → length (first.spelling (first_row fsid bytes)) ≡ 24
unfolding first hyper fixed
first_long fsid bytes low long =
    first-laws.sized (first_row fsid bytes) (first.spelling (first_row fsid bytes))
    (first-laws.written (first_row fsid bytes) (first_fits fsid bytes low long))

pub first_said : (fsid : ℕ) (bytes : List ℕ) → fsid < 2 ^ 64 → length bytes ≡ 8
    → first_in (first.spelling (first_row fsid bytes)) ≡ Some (first_row fsid bytes)
first_said fsid bytes low long = said-again first first-laws (first_row fsid bytes) (first_fits fsid bytes low long)

-- ---- lanes

pub lane_long : (next : ℕ) → length (hyper.spelling next) ≡ 8
unfolding hyper
lane_long next = refl

pub lane_said : (next : ℕ) → next < 2 ^ 64 → lane_in (hyper.spelling next) ≡ Some next
lane_said next low = said-again hyper hyper-laws next (hyper_fits next low)

-- ---- times

time_fits : (at : Moment) → IsTime at → time.Fits at
unfolding time
time_fits at is = record {
  first = word_fits at.seconds is.seconds;
  second = record { first = word_fits at.nanos is.nanos; second = refl };
}

times_fits : (at : Moment) → IsTime at → times.Fits (always at)
unfolding times
times_fits at is = record {
  first = time_fits at is;
  second = record { first = time_fits at is; second = record { first = time_fits at is; second = refl } };
}

pub times_long : (at : Moment) → IsTime at → length (times.spelling (always at)) ≡ 24
unfolding times time word
times_long at is =
    times-laws.sized (always at) (times.spelling (always at)) (times-laws.written (always at) (times_fits at is))

pub times_said : (at : Moment) → IsTime at → times_in (times.spelling (always at)) ≡ Some (always at)
times_said at is = said-again times times-laws (always at) (times_fits at is)

-- ---- the root's inode

kind_fits : kind.Fits Dir
unfolding kind byte
kind_fits = record { first = record { fits = omega arith; passes = refl }; second = refl }

flag_fits : flag.Fits false
unfolding flag byte
flag_fits = record { first = record { fits = omega arith; passes = refl }; second = refl }

no_verifier_fits : no_verifier.Fits None
unfolding no_verifier fixed
no_verifier_fits = record { first = record { fits = refl; passes = refl }; second = refl }

verifier_fits : verifier.Fits None
unfolding verifier
verifier_fits = record { first = flag_fits; second = no_verifier_fits }

root_fits : (at : Moment) → IsTime at → Fits (root_row at)
unfolding head root_inode longest_target
root_fits at is = record {
  head = record {
    first = kind_fits;
    second = record {
      first = word_fits 493 (omega arith);
      second = record {
        first = word_fits 2 (omega arith);
        second = record {
          first = word_fits 0 (omega arith);
          second = record {
            first = word_fits 0 (omega arith);
            second = record {
              first = hyper_fits 4096 (omega arith);
              second = record {
                first = time_fits at is;
                second = record {
                  first = time_fits at is;
                  second = record {
                    first = time_fits at is;
                    second = record {
                      first = hyper_fits 1 (omega arith);
                      second = record {
                        first = hyper_fits 3 (omega arith);
                        second = record {
                          first = verifier_fits;
                          second = record {
                            first = hyper_fits 0 (omega arith);
                            second = record { first = hyper_fits 0 (omega arith); second = refl };
                          };
                        };
                      };
                    };
                  };
                };
              };
            };
          };
        };
      };
    };
  };
  target = omega arith;
}

pub root_short : (at : Moment) → IsTime at → length (value_of (root_row at)) ≤ 1113
root_short at is = inode-short (root_row at) (root_fits at is)

pub root_said : (at : Moment) → IsTime at → inode_of (value_of (root_row at)) ≡ Some (root_row at)
root_said at is = inode-again (root_row at) (root_fits at is)
