-- Counts of replies. Assumes nothing.
--     more n              one more than n, up to the greatest number of 64 bits
--     no_replies          nothing counted
--     with_reply t q r    t and the reply r to the request q
--     with_difference t   t and two replies that differed
use Rattle.std.specs.Prelude.{ℕ, ◌+◌, ◌-◌, ◌^◌, min, true, false, Some, None, Ok, Err}
use Rattle.register.specs.declared.requests.Request.{Request}
use Rattle.register.specs.declared.requests.Request.TheVariants.{Remove}
use Rattle.register.specs.declared.requests.Reply.{Reply}
use Rattle.register.specs.declared.requests.Reply.TheVariants as reply
use Rattle.twin_registers.specs.declared.tally.Tally.{Tally}

abbrev pub more : ℕ → ℕ
more n = min (n + 1) (2 ^ 64 - 1)

abbrev pub no_replies : Tally
no_replies = record {
  requests = 0;
  found = 0;
  not_found = 0;
  put = 0;
  refused = 0;
  removed = 0;
  not_removed = 0;
  yes = 0;
  no = 0;
  differing = 0;
}

abbrev pub with_reply : Tally → Request → Reply → Tally
with_reply t q (reply.Entry (Some e)) = record t { requests = more t.requests; found = more t.found }
with_reply t q (reply.Entry None) = record t { requests = more t.requests; not_found = more t.not_found }
with_reply t q (reply.Put (Ok u)) = record t { requests = more t.requests; put = more t.put }
with_reply t q (reply.Put (Err f)) = record t { requests = more t.requests; refused = more t.refused }
with_reply t (Remove k) (reply.Told true) = record t { requests = more t.requests; removed = more t.removed }
with_reply t (Remove k) (reply.Told false) = record t { requests = more t.requests; not_removed = more t.not_removed }
with_reply t _ (reply.Told true) = record t { requests = more t.requests; yes = more t.yes }
with_reply t _ (reply.Told false) = record t { requests = more t.requests; no = more t.no }

abbrev pub with_difference : Tally → Tally
with_difference t = record t { differing = more t.differing }
