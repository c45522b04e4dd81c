pub mod Referrals
